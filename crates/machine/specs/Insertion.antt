-- Document 01, "Insertion and removal", on the slots of one side.
-- Assumes nothing.
use Rattle.std.specs.Prelude.{ℕ, ◌+◌, ◌%◌, ◌^◌, List, map, Bool, false, not, cond, ◌&&◌, ◌||◌, eqb, get_or, set, Some, None, Ok, Err, Option, Result}
use Rattle.laws.specs.Tests.{tick, any_of, first}
use Rattle.machine.specs.Pages.{page_start}
use Rattle.machine.specs.Slots.{no_slot, is_live, partition_of, is_locked, is_used, owner_word, key_owner, key_address, holds, answers_to, clear_used}
use Rattle.machine.specs.declared.Slot.{Slot}
use Rattle.machine.specs.declared.Key.{Key}
use Rattle.machine.specs.declared.Removal.{Removal}
use Rattle.machine.specs.declared.Removal.TheVariants.{Page, Context, Unlocked, Everything, Overlapping}
use Rattle.machine.specs.declared.Wanted.{Wanted}
use Rattle.machine.specs.declared.Wanted.TheVariants as wanted
use Rattle.machine.specs.declared.Choice.{Choice}
use Rattle.machine.specs.declared.Choice.TheVariants.{Empty, Unused, Cleared, Full}
use Rattle.machine.specs.declared.NoSlot.{NoSlot}

-- overlap: two live entries with the same partition, real bit and context, the start of one in the page of the other
unfoldable pub overlaps : Slot → Slot → Bool
overlaps x y = is_live x && (is_live y && (eqb x.owner y.owner && (holds x y.page || holds y x.page)))

-- ---- removal
-- a slot, emptied where the test takes it
abbrev pub emptied_by : (Slot → Bool) → Slot → Slot
emptied_by test x = cond (test x) no_slot x

abbrev pub removed : (Slot → Bool) → List Slot → List Slot
removed test s = map (emptied_by test) s

unfoldable pub removes : Removal → Slot → Bool
-- demap page: the entry that answers to a key; a real key has no context
removes (Page key) x = answers_to key x
-- demap context: virtual entries of a partition and a context, whatever their locks
removes (Context partition context) x = is_live x && eqb x.owner (owner_word partition false context)
-- demap all: a partition's entries, real ones too, but no locked one
removes (Unlocked partition) x = is_live x && (eqb (partition_of x) partition && not (is_locked x))
-- invalidate all: every entry
removes Everything x = is_live x
-- before an insertion: what the new entry overlaps, whatever its lock
removes (Overlapping new) x = overlaps new x

-- ---- insertion
-- the new entry: its page is the key's address rounded down by the word's size code, and its used bit is set (document 01: marked)
unfoldable pub entry_of : Key → Bool → ℕ → Slot
entry_of key locked word = record {
  owner = key_owner key;
  page = page_start (word % 2 ^ 4) (key_address key);
  word = word;
  flags = tick locked + 2;
}

abbrev pub is_empty : Slot → Bool
is_empty x = not (is_live x)

-- an entry that an insertion into a full side may displace
abbrev pub candidate : Slot → Bool
candidate x = is_live x && not (is_locked x)

abbrev pub found_or : Option ℕ → (ℕ → Choice) → Choice → Choice
found_or (Some i) chosen other = chosen i
found_or None chosen other = other

-- what a choice of a slot looks for: an empty one, an unused candidate, a candidate
unfoldable pub wants : (Slot → Bool) → Wanted → Slot → Bool
wants cand wanted.Empty x = is_empty x
wants cand wanted.Unused x = cand x && not (is_used x)
wants cand wanted.Candidate x = cand x

-- which slot an insertion takes, of each sort the lowest: an empty one; else an unused candidate; else a candidate,
-- with all used bits cleared. Over any test for candidates; those of document 01 are the unlocked entries
unfoldable pub choice : (Slot → Bool) → List Slot → Choice
choice cand s =
    found_or (first (wants cand wanted.Empty) s) Empty
    (found_or (first (wants cand wanted.Unused) s) Unused
    (found_or (first (wants cand wanted.Candidate) s) Cleared
    Full))

-- the slots with the new entry in the slot chosen
abbrev pub stored : Slot → List Slot → Choice → List Slot
stored new s (Empty i) = set s i new
stored new s (Unused i) = set s i new
stored new s (Cleared i) = set (clear_used s) i new
stored new s Full = s

-- the entry that made way
abbrev pub displaced_by : List Slot → Choice → Result (Option Slot) NoSlot
displaced_by s (Empty i) = Ok None
displaced_by s (Unused i) = Ok (Some (get_or s i no_slot))
displaced_by s (Cleared i) = Ok (Some (get_or s i no_slot))
displaced_by s Full = Err (record {})

-- the slots after an insertion, and what it comes to
unfoldable pub inserted : (Slot → Bool) → Slot → List Slot → List Slot
inserted cand new s = let kept = removed (overlaps new) s in stored new kept (choice cand kept)

unfoldable pub placed : (Slot → Bool) → Slot → List Slot → Result (Option Slot) NoSlot
placed cand new s = let kept = removed (overlaps new) s in displaced_by kept (choice cand kept)

-- number 13: a slot is to be had where one is empty, an entry may be displaced, or one overlaps and makes way
unfoldable pub has_slot : (Slot → Bool) → Slot → List Slot → Bool
has_slot cand new s = any_of is_empty s || (any_of cand s || any_of (overlaps new) s)
