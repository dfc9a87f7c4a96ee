-- How a state of the unit and a ledger with its places stand to each other: the same registers, the same lookups, on each side the same entries, and each in
-- its place.
-- Assumes nothing.
use Prim.Native.Nat.{ℕ, ◌<◌}
use mathlib.Core.Path.{◌≡◌}
use mathlib.Core.Bool.{Bool, true, cond, ◌&&◌}
use mathlib.Core.List.{List, map}
use lib.ListN.{length}
use Rattle.laws.specs.Tests.{count}
use Rattle.machine.specs.Slots.{is_live, is_used}
use Rattle.machine.specs.Sound.{side_sound}
use Rattle.machine.specs.Registers.{register, registers_sound}
use Rattle.machine.specs.Record.{Records}
use Rattle.machine.specs.State.{Counts, State, side_of}
use Rattle.machine.specs.Ledger.{Entry, Ledger}
use Rattle.machine.specs.Places.{Place, empty, filled, Reference, seen_words, newest_words, older_words}
use Rattle.machine.specs.Frame.{entry_in}
use Rattle.machine.specs.declared.Slot.{Slot}

-- a live slot whose entry passes
abbrev pub hit : (Entry → Bool) → Slot → Bool
hit p x = is_live x && p (entry_in x)

-- a sound side of n slots holds the very entries of a list: no test counts more of them in one than in the other
pub record SideAlike (n : ℕ) (s : List Slot) (m : List Entry) : Type 0 where
  pub size : length s ≡ n
  pub sound : side_sound s ≡ true
  pub same : (p : Entry → Bool) → count (hit p) s ≡ count p m

-- the words of the records are those of the lookups
pub record RecordsAlike (x : Records) (lookups : ℕ → ℕ → List Bool) : Type 0 where
  pub seen : x.seen ≡ seen_words lookups
  pub newest : x.newest ≡ newest_words lookups
  pub older : x.older ≡ older_words lookups

pub record Alike (n : Counts) (u : State) (l : Ledger) : Type 0 where
  pub allowed : registers_sound u.registers ≡ true
  pub registers : (strand number : ℕ) → strand < 4 → number < 32 → l.registers strand number ≡ register u.registers strand number
  pub itlb : SideAlike n.itlb u.itlb (l.entries 0)
  pub dtlb : SideAlike n.dtlb u.dtlb (l.entries 1)
  pub records : RecordsAlike u.records l.lookups

-- what stands in a slot, as a place
abbrev pub place_in : Slot → Place
place_in x = cond (is_live x) (filled (entry_in x) (is_used x)) empty

-- the places are the unit's slots
pub record PlacesAlike (u : State) (p : ℕ → List Place) : Type 0 where
  pub at : (side : ℕ) → side < 2 → p side ≡ map place_in (side_of u side)

pub record ReferenceAlike (n : Counts) (u : State) (k : Reference) : Type 0 where
  pub ledger : Alike n u k.ledger
  pub places : PlacesAlike u k.places
