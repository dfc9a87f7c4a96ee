-- Document 02, U2: what a search of a side finds and how many pages it compares, in the words of the ledger and its places.
-- Assumes nothing.
use Rattle.std.specs.Prelude.{ℕ, ◌+◌, ◌≤◌, ◌<◌, ◌≡◌, Bool, true, List, get_or, take, Some, None}
use Rattle.laws.specs.Passing.{how_many}
use Rattle.machine.specs.Slots.{searched}
use Rattle.machine.specs.Questions.{key_of}
use Rattle.machine.specs.State.{Counts, slot_count, side_of, state_of}
use Rattle.machine.specs.Ledger.{Entry, is_of, is_at}
use Rattle.machine.specs.Places.{Place, empty, filled, Reference, reference_words}
use Rattle.machine.specs.Good.{entries_in, ReferenceGood}
use Rattle.machine.specs.declared.Searched.{Searched}
use Rattle.machine.specs.declared.VirtualAddress.{VirtualAddress}

-- s are the places of a side, m the ledger's list of it; `asked` are the entries of one partition, realness and, if virtual, context, and `found`
-- those of them whose page holds the address; r is what the search yields
pub record SearchSays (s : List Place) (m : List Entry) (asked found : Entry → Bool) (r : Searched) : Type 0 where
  -- with a slot found: it holds such an entry, and the pages compared are those of the entries asked for in the places up to it, it included
  pub hit : (i : ℕ) → r.found ≡ Some i
      → (e : Entry) × (used : Bool) × (get_or s i empty ≡ filled e used) × (found e ≡ true) × (r.compared ≡ how_many asked (entries_in (take (i + 1) s)))
  -- with none: the ledger has no such entry, and the pages compared are those of all entries asked for
  pub miss : r.found ≡ None → (how_many found m ≡ 0) × (r.compared ≡ how_many asked m)

-- on either side of every sound state, for every partition, context and address
unfoldable pub Searches : Counts → Type 0
Searches n = (k : Reference) → ReferenceGood (slot_count n) k → (side : ℕ) → side < 2
    → (partition : ℕ) (real : Bool) (context : ℕ) (address : VirtualAddress) → partition ≤ 7 → context ≤ 8191
    → SearchSays (k.places side) (k.ledger.entries side) (is_of partition real context) (is_at partition real context address.0)
    (searched (key_of real partition context address) (side_of (state_of n (reference_words k)) side))
