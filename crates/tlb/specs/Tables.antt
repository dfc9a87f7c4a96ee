-- What the code asks in place of `answers_to` and `overlaps`: numbers, and tables of them by size code. None of this is in a promise of `search`
-- or `overlaps_none`.
-- Assumes nothing.
use Rattle.std.specs.Prelude.{ℕ, ◌+◌, ◌*◌, ◌/◌, ◌^◌, max, List, Bool, ◌&&◌, eqb, get_or, set, replicate, drop}
use Rattle.laws.specs.Tests.{first_from, count_up_to}
use Rattle.machine.specs.Slots.{is_live, size_code, slots_of}
use Rattle.machine.specs.declared.Slot.{Slot}
use Rattle.machine.specs.declared.Searched.{Searched}

-- f of the page shift at a listed size code, and another number at the others
abbrev pub by_code : ℕ → (ℕ → ℕ) → List ℕ
by_code other f = set (set (set (set (replicate 16 other) 0 (f 13)) 1 (f 16)) 3 (f 22)) 5 (f 28)

-- an address rounded down
unfoldable pub starts_of : ℕ → List ℕ
starts_of a = by_code a (λ k. a / 2 ^ k * 2 ^ k)

-- the larger of two page sizes
unfoldable pub spans_of : ℕ → List ℕ
spans_of size = by_code size (λ k. max size (2 ^ k))

-- of the owner, and live
unfoldable pub compared_by : ℕ → Slot → Bool
compared_by owner x = eqb x.owner owner && is_live x

-- at the start that a table gives for its size code
abbrev pub starts_by : List ℕ → Slot → Bool
starts_by start x = eqb (get_or start (size_code x) 0) x.page

unfoldable pub answers_by : ℕ → List ℕ → Slot → Bool
answers_by owner start x = compared_by owner x && starts_by start x

-- what a search of some slots yields, of which the first is slot i
abbrev pub searched_by : ℕ → List ℕ → ℕ → List Slot → Searched
searched_by owner start i s =
    record { found = first_from (answers_by owner start) i s; compared = count_up_to (compared_by owner) (answers_by owner start) s }

-- what a search of the slots from i on yields
abbrev pub searched_from : ℕ → List ℕ → List ℕ → ℕ → Searched
searched_from owner start l i = searched_by owner start i (drop i (slots_of l))

-- what a search yields that has compared c pages before
abbrev pub after : ℕ → Searched → Searched
after c r = record { found = r.found; compared = c + r.compared }
