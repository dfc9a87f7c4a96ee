-- Document 02, U3: how far a translation reaches and how long it lasts, in the words of the ledger: what a cache above the unit may answer in its place.
-- Assumes nothing.
use Rattle.std.specs.Prelude.{ℕ, ◌+◌, ◌-◌, ◌/◌, ◌%◌, ◌^◌, ◌≤◌, ◌<◌, ◌≡◌, Bool, true, false, ◌&&◌, List, eqb, leb}
use Rattle.laws.specs.Passing.{none_passes}
use Rattle.machine.specs.State.{Counts, slot_count}
use Rattle.machine.specs.Stream.{Bytes}
use Rattle.machine.specs.Ledger.{Ledger, code_bytes, line, Asked, asked_side, accesses}
use Rattle.machine.specs.Places.{Reference}
use Rattle.machine.specs.Good.{ReferenceGood}
use Rattle.machine.specs.Reference.{reference_after, miss_next}
use Rattle.machine.specs.declared.Command.{Command}
use Rattle.machine.specs.declared.Command.TheVariants as command

-- what a translation goes by is as it was: registers 0 to 5 of the strand, and the entries of the side
pub record Undisturbed (strand side : ℕ) (before after : Ledger) : Type 0 where
  pub registers : (number : ℕ) → number ≤ 5 → after.registers strand number ≡ before.registers strand number
  pub entries : after.entries side ≡ before.entries side

-- the commands that may disturb it: a write of one of these registers; and, by any strand, what inserts or removes on the side
unfoldable pub disturbs : ℕ → ℕ → Command → Bool
disturbs strand side (command.Write s number value) = eqb s strand && leb number 5
disturbs strand side (command.Insert s k flags word) = eqb k side
disturbs strand side (command.DemapPage s k selector flags address) = eqb k side
disturbs strand side (command.DemapContext s k selector) = eqb k side
disturbs strand side (command.DemapAll s k) = eqb k side
disturbs strand side (command.Invalidate k) = eqb k side
disturbs strand side (command.Access s kind selector size address) = false
disturbs strand side (command.Read s number) = false
disturbs strand side (command.Pointers s k) = false
disturbs strand side (command.Rate s k) = false

pub record Extent (n : Counts) : Type 0 where
  -- an access was answered with a physical address and a page's size code. Then every aligned address in the page of that size around it gets, by the same
  -- strand, kind and selector, the same bytes, with the physical address at its own offset
  pub page : (k : Reference) → ReferenceGood (slot_count n) k → (q : Asked) → q.strand < 4 → q.selector < 3
      → (attributes code address : ℕ) → address < 2 ^ 64 → (accesses k.ledger q).bytes ≡ line 1 attributes 0 code address 0 → (code ≡ 15 → ⊥)
      → (after : Ledger) → Undisturbed q.strand (asked_side q) k.ledger after
      → (size used : ℕ) → used % 2 ^ size ≡ 0 → used / code_bytes code ≡ q.used / code_bytes code
      → (accesses after (record { strand = q.strand; kind = q.kind; selector = q.selector; size = size; used = used })).bytes
      ≡ line 1 attributes 0 code (address - q.used % code_bytes code + used % code_bytes code) 0
  -- so it is for as long as no command disturbs it
  pub commands : (hv : Bool) (k : Reference) (cs : List Command) (strand side : ℕ) → none_passes (disturbs strand side) cs ≡ true
      → Undisturbed strand side k.ledger (reference_after hv (slot_count n) k cs).ledger
  -- and no miss is served on the side
  pub miss : (k : Reference) (at served : ℕ) (of_zero of_other : Bytes) (strand side : ℕ) → eqb served side ≡ false
      → Undisturbed strand side k.ledger (miss_next (slot_count n) k at served of_zero of_other).ledger
