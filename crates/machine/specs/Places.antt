-- Document 01's slots and marks (used bits) as their own text, beside the ledger: what each command does to the places of a side, whom an insertion displaces,
-- and the words in which a caller sees it all. It goes by the ledger's registers, lists and tests, and by nothing of the unit.
-- Assumes nothing.
use Rattle.std.specs.Prelude.{ℕ, zero, suc, ◌+◌, ◌*◌, ◌-◌, ◌/◌, ◌%◌, ◌^◌, Bool, true, false, not, cond, ◌&&◌, ◌||◌, List, [], ◌∷◌, ◌++◌, map, eqb, leb, length, take, drop, replicate, Some, None, Option}
use Rattle.laws.specs.Passing.{none_passes, find}
use Rattle.machine.specs.Ledger.{Entry, Ledger, start, unlocked, overlap, context_picked, one_if, Name, new_entry}
use Rattle.machine.specs.Ledger.{first_no, questions, lacks_slot, is_at, in_context, in_partition, Asked, used_address}
use Rattle.machine.specs.Ledger.{asked_side, looks_up, found_by, enters, insertion_questions, Miss, refused, absent, present, serves}
use Rattle.machine.specs.declared.Command.{Command}
use Rattle.machine.specs.declared.Command.TheVariants as command

-- ---- a place
-- a slot: it is empty, or holds an entry and its used bit (document 01's mark)
pub data Place : Type 0 where
  empty : Place
  filled : Entry → Bool → Place

-- how many a side has: 64, either of them
abbrev pub slots : ℕ → ℕ
slots side = 64

-- the ledger and, for each side, its places, lowest first
pub record Reference : Type 0 where
  pub ledger : Ledger
  pub places : ℕ → List Place

-- the three that an insertion may look for: empty; unlocked; unlocked and unused
abbrev pub is_free : Place → Bool
is_free empty = true
is_free (filled e used) = false

abbrev pub is_unlocked : Place → Bool
is_unlocked empty = false
is_unlocked (filled e used) = unlocked e

abbrev pub is_unused : Place → Bool
is_unused empty = false
is_unused (filled e used) = unlocked e && not used

-- emptied where the test takes the entry: lock and used bit go with it
abbrev pub emptied_where : (Entry → Bool) → Place → Place
emptied_where p empty = empty
emptied_where p (filled e used) = cond (p e) empty (filled e used)

-- its used bit set where the test finds the entry
abbrev pub used_where : (Entry → Bool) → Place → Place
used_where p empty = empty
used_where p (filled e used) = filled e (p e || used)

abbrev pub unused : Place → Place
unused empty = empty
unused (filled e used) = filled e false

-- ---- which place an insertion takes, once those overlapped are gone
-- an empty one; else an unlocked and unused one; else an unlocked one
unfoldable pub sought : List Place → Place → Bool
sought s = cond (none_passes is_free s) (cond (none_passes is_unused s) is_unlocked is_unused) is_free

-- the lowest that passes holds the new one
unfoldable pub at_lowest : (Place → Bool) → Place → List Place → List Place
at_lowest p new [] = []
at_lowest p new (x ∷ r) = cond (p x) (new ∷ r) (x ∷ at_lowest p new r)

-- the new entry, its used bit set, in the lowest place sought; where none is empty and all unlocked ones are used, all used bits of the side are cleared first
unfoldable pub with_entry : Entry → List Place → List Place
with_entry e s = at_lowest (sought s) (filled e true) (cond (none_passes is_free s && none_passes is_unused s) (map unused s) s)

abbrev pub entry_at : Option Place → Option Entry
entry_at None = None
entry_at (Some empty) = None
entry_at (Some (filled e used)) = Some e

-- the entry that makes way: the one in that place
unfoldable pub displaced_from : List Place → Option Entry
displaced_from s = entry_at (find (sought s) s)

-- ---- what a command does to the places
abbrev pub with_places : (ℕ → List Place) → ℕ → List Place → ℕ → List Place
with_places p side s k = cond (eqb k side) s (p k)

-- a side, place by place
abbrev pub each : Reference → ℕ → (Place → Place) → ℕ → List Place
each k side f = with_places k.places side (map f (k.places side))

-- an access that looks up sets the used bit of the entry found
abbrev pub accessed : Reference → Asked → ℕ → List Place
accessed k a = cond (looks_up k.ledger a) (each k (asked_side a) (used_where (found_by k.ledger a))) k.places

-- of a command that none of 5 to 12, 15 and 16 refused: what the ledger strikes leaves an empty place; n is the slot count of each side
unfoldable pub moved : (ℕ → ℕ) → Reference → Command → ℕ → List Place
moved n k (command.Write strand number value) = k.places
moved n k (command.Insert strand side flags word) =
    let e : Entry = new_entry k.ledger strand side flags word in
    cond (lacks_slot (n side) e (k.ledger.entries side)) k.places
    (with_places k.places side (with_entry e (map (emptied_where (overlap e)) (k.places side))))
moved n k (command.DemapPage strand side selector flags address) =
    each k side (emptied_where (is_at (k.ledger.registers strand 0) (eqb flags 1) (context_picked k.ledger strand selector) address.0))
moved n k (command.DemapContext strand side selector) =
    each k side (emptied_where (in_context (k.ledger.registers strand 0) (context_picked k.ledger strand selector)))
moved n k (command.DemapAll strand side) = each k side (emptied_where (in_partition (k.ledger.registers strand 0)))
moved n k (command.Invalidate side) = each k side (emptied_where (λ e. true))
moved n k (command.Access strand kind selector size address) =
    accessed k (record { strand = strand; kind = kind; selector = selector; size = size; used = used_address k.ledger strand address.0 })
moved n k (command.Read strand number) = k.places
moved n k (command.Pointers strand side) = k.places
moved n k (command.Rate strand side) = k.places

-- a refused command leaves them
unfoldable pub places_after : Bool → (ℕ → ℕ) → Reference → Command → ℕ → List Place
places_after hv n k c = cond (eqb (first_no (questions hv k.ledger c)) 0) (moved n k c) k.places

-- an insertion from 11 on
unfoldable pub places_inserted : (ℕ → ℕ) → Reference → ℕ → ℕ → ℕ → ℕ → ℕ → List Place
places_inserted n k strand side flags word =
    cond (eqb (first_no (insertion_questions k.ledger strand side word)) 0) (moved n k (command.Insert strand side flags word)) k.places

-- a miss that is served by an entry moves them as its insertion does
abbrev pub places_served : (ℕ → ℕ) → Reference → ℕ → ℕ → Miss → ℕ → List Place
places_served n k strand side (refused number) = k.places
places_served n k strand side absent = k.places
places_served n k strand side (present word) = places_inserted n k strand side 0 word

-- ---- both
-- after one command: the ledger is told the name d of the displaced entry, the places nothing
abbrev pub reference_told : Bool → (ℕ → ℕ) → Reference → Command → Name → Reference
reference_told hv n k c d = record { ledger = (enters hv n k.ledger c d).ledger; places = places_after hv n k c }

-- after a miss, in the same way
abbrev pub miss_told : (ℕ → ℕ) → Reference → ℕ → ℕ → Miss → Name → Reference
miss_told n k strand side m d = record { ledger = (serves n k.ledger strand side m d).ledger; places = places_served n k strand side m }

-- reset: no entry, every place empty
abbrev pub reference_start : (ℕ → ℕ) → Reference
reference_start n = record { ledger = start; places = λ side. replicate (n side) empty }

-- ---- words
-- four to a place: whose the entry is (partition, real bit, context), its page, its word, its lock and used bit; an empty one holds zeros
abbrev pub place_words : Place → List ℕ
place_words empty = 0 ∷ 0 ∷ 0 ∷ 0 ∷ []
place_words (filled e used) =
    (e.partition * 2 ^ 14 + one_if e.real * 2 ^ 13 + e.context) ∷ e.page ∷ e.word ∷ (one_if e.locked + 2 * one_if used) ∷ []

unfoldable pub side_words : List Place → List ℕ
side_words [] = []
side_words (x ∷ r) = place_words x ++ side_words r

-- the first n of a row of numbers
unfoldable pub row : (ℕ → ℕ) → ℕ → List ℕ
row f zero = []
row f (suc n) = row f n ++ (f n ∷ [])

-- a strand's lookups on a side (document 02, U5), in words of 64: the outcomes of some, the first in the lowest bit
unfoldable pub outcomes_word : List Bool → ℕ
outcomes_word [] = 0
outcomes_word (missed ∷ m) = one_if missed + 2 * outcomes_word m

-- the newest word has what is left of all lookups by full words of 64, or a full one; and, above them, the oldest of the last 1,024
abbrev pub newest_part : List Bool → ℕ
newest_part m = length m - (length m - 1) / 64 * 64

abbrev pub newest_word : List Bool → ℕ
newest_word m = outcomes_word (take (newest_part m) m ++ drop (newest_part m + 960) (take 1024 m))

-- those between fill fifteen words
abbrev pub older_word : List Bool → ℕ → ℕ
older_word m j = outcomes_word (take 64 (drop (newest_part m + 64 * j) m))

-- their number; from 1,024 on, only how many the newest word has is told
abbrev pub seen_word : List Bool → ℕ
seen_word m = cond (leb (length m) 1024) (length m) (1024 + newest_part m)

-- strand by strand, and for either side of each
abbrev pub seen_words : (ℕ → ℕ → List Bool) → List ℕ
seen_words lookups = row (λ r. seen_word (lookups (r / 2) (r % 2))) 8

abbrev pub newest_words : (ℕ → ℕ → List Bool) → List ℕ
newest_words lookups = row (λ r. newest_word (lookups (r / 2) (r % 2))) 8

abbrev pub older_words : (ℕ → ℕ → List Bool) → List ℕ
older_words lookups = row (λ i. older_word (lookups (i / 15 / 2) (i / 15 % 2)) (i % 15)) 120

-- 32 cells for each of the four strands, a register in the cell of its number; then side 0 and side 1; then the lookups: their numbers, the newest
-- words, the older ones
unfoldable pub reference_words : Reference → List ℕ
reference_words k =
    row (λ i. k.ledger.registers (i / 32) (i % 32)) 128
    ++ (side_words (k.places 0)
    ++ (side_words (k.places 1)
    ++ (seen_words k.ledger.lookups ++ (newest_words k.ledger.lookups ++ older_words k.ledger.lookups))))
