-- The words of slots as rows of four, and tests and tables that take a closure. None of this is in a promise of `search` or `overlaps_none`.
-- Assumes nothing.
use Rattle.std.specs.Prelude.{ℕ, ◌^◌, ◌≡◌, List, Bool, get_or}
use Rattle.std.specs.Fn.{Shared}
use denote.Ref.{Bor}
use Rattle.machine.specs.declared.Slot.{Slot}

-- the slot that a row of four words holds
abbrev pub row_slot : List ℕ → Slot
row_slot row = record { owner = get_or row 0 0; page = get_or row 1 0; word = get_or row 2 0; flags = get_or row 3 0 }

module _ {F : Type 0} (g : Shared F (Bor (List ℕ) × Unit {0}) Bool) (test : F) where
  -- a test may be asked of a row
  abbrev pub TakesRow : List ℕ → Type 0
  TakesRow row = (p : Bor (List ℕ)) → p.now ≡ row → g.pre test (p, tt)

  -- what it then answers is what q says of the row's slot
  abbrev pub AsksSlot : (Slot → Bool) → List ℕ → Type 0
  AsksSlot q row = (p : Bor (List ℕ)) (r : Bool) → p.now ≡ row → g.post test (p, tt) r → r ≡ q (row_slot row)

-- of each listed page size
abbrev pub OfEachSize : (ℕ → Type 0) → Type 0
OfEachSize P = P (2 ^ 13) × P (2 ^ 16) × P (2 ^ 22) × P (2 ^ 28)
