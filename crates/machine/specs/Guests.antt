-- Document 02, U6: what guests cannot do, over every list of runs of streams without the hypervisor's mark, in the words of the ledger.
-- Assumes nothing.
use Rattle.std.specs.Prelude.{ℕ, ◌≤◌, ◌<◌, ◌≡◌, Bool, true, false, List, [], ◌++◌, eqb, length}
use Rattle.laws.specs.Passing.{how_many}
use Rattle.machine.specs.Stream.{Bytes}
use Rattle.machine.specs.Ledger.{Entry, Ledger, questions}
use Rattle.machine.specs.Places.{Reference, reference_words}
use Rattle.machine.specs.Format.{Reading, ReadAs}
use Rattle.machine.specs.Demand3.{Live}
use Rattle.machine.specs.Good.{ReferenceGood, GoodWords}
use Rattle.machine.specs.Reference.{reference_after, RunTold}
use Rattle.machine.specs.declared.Command.{Command}
use Rattle.machine.specs.declared.Command.TheVariants as command
use Rattle.machine.specs.declared.Report.{Report}

-- a command names the strand; an invalidation names none
unfoldable pub names : ℕ → Command → Bool
names strand (command.Write s number value) = eqb s strand
names strand (command.Insert s side flags word) = eqb s strand
names strand (command.DemapPage s side selector flags address) = eqb s strand
names strand (command.DemapContext s side selector) = eqb s strand
names strand (command.DemapAll s side) = eqb s strand
names strand (command.Invalidate side) = false
names strand (command.Access s kind selector size address) = eqb s strand
names strand (command.Read s number) = eqb s strand
names strand (command.Pointers s side) = eqb s strand
names strand (command.Rate s side) = eqb s strand

-- one of the four strands, and one of the commands names it
pub record Named (cs : List Command) (strand : ℕ) : Type 0 where
  pub strands : strand < 4
  pub named : 1 ≤ how_many (names strand) cs

-- guests: each strand that is named is in mode 0 or 1
abbrev pub Guests : Ledger → List Command → Type 0
Guests l cs = (strand : ℕ) → Named cs strand → l.registers strand 3 ≤ 1

-- what they leave: every strand's partition, mode and, beyond what the request asks, translation, named or not; and on either side each locked entry of a
-- partition that none of them is in
pub record Confined (before : Ledger) (cs : List Command) (after : Ledger) : Type 0 where
  pub partitions : (strand : ℕ) → after.registers strand 0 ≡ before.registers strand 0
  pub modes : (strand : ℕ) → after.registers strand 3 ≡ before.registers strand 3
  pub translations : (strand : ℕ) → after.registers strand 4 ≡ before.registers strand 4
  pub locked : (side : ℕ) (e : Entry) → side < 2 → Live e (before.entries side) → e.locked ≡ true
      → ((strand : ℕ) → Named cs strand → before.registers strand 0 ≡ e.partition → ⊥)
      → Live e (after.entries side)

-- runs of unmarked streams, each on the words that the last one left, by what is promised of the call: from which words, the commands of all of them,
-- and the words at the end
pub data Unmarked (n : ℕ → ℕ) : List ℕ → List Command → List ℕ → Type 0 where
  none : {words : List ℕ} → Unmarked n words [] words
  run : {words left last : List ℕ} {cs : List Command} {input output written : Bytes} {r : Report} {t : Reading}
      → RunTold false n words input output left written r → ReadAs input (length output) t → Unmarked n left cs last
      → Unmarked n words (t.commands ++ cs) last

pub record GuestsConfined (n : ℕ → ℕ) : Type 0 where
  -- words that are not sound stay, whatever is run
  pub unsound : {words last : List ℕ} {cs : List Command} → Unmarked n words cs last → (GoodWords n words → ⊥) → last ≡ words
  -- and sound ones are at the end those of the ledger that took the commands; where these are guests', they are confined
  pub sound : {words last : List ℕ} {cs : List Command} → Unmarked n words cs last → (k : Reference) → ReferenceGood n k → words ≡ reference_words k
      → (last ≡ reference_words (reference_after false n k cs)) × (Guests k.ledger cs → Confined k.ledger cs (reference_after false n k cs).ledger)

-- ---- the stream's mark
unfoldable pub is_invalidation : Command → Bool
is_invalidation (command.Write strand number value) = false
is_invalidation (command.Insert strand side flags word) = false
is_invalidation (command.DemapPage strand side selector flags address) = false
is_invalidation (command.DemapContext strand side selector) = false
is_invalidation (command.DemapAll strand side) = false
is_invalidation (command.Invalidate side) = true
is_invalidation (command.Access strand kind selector size address) = false
is_invalidation (command.Read strand number) = false
is_invalidation (command.Pointers strand side) = false
is_invalidation (command.Rate strand side) = false

-- of every other command a marked stream is asked what an unmarked one is
pub record MarkAlone : Type 0 where
  pub others : (hv : Bool) (l : Ledger) (c : Command) → is_invalidation c ≡ false → questions hv l c ≡ questions false l c
