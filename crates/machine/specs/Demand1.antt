-- Demand 1: what a malformed state or command leaves as it was. Assumes nothing.
use Rattle.std.specs.Prelude.{ℕ, ◌*◌, ◌≤◌, ◌≡◌, Bool, true, List, get_or, drop}
use Rattle.machine.specs.State.{Counts, slot_count, State, state_of, sound}
use Rattle.machine.specs.Step.{step}
use Rattle.machine.specs.Stream.{Bytes, answer_bytes, Outcome, run_of}
use Rattle.machine.specs.Serve.{serve, served_of}
use Rattle.machine.specs.Ledger.{line, first_no, questions}
use Rattle.machine.specs.Places.{Reference, reference_words}
use Rattle.machine.specs.Demand3.{unit_bytes}
use Rattle.machine.specs.Good.{ReferenceGood, GoodWords}
use Rattle.machine.specs.declared.Command.{Command}
use Rattle.machine.specs.declared.Answer.TheVariants as answer

pub record Demand1 : Type 0 where
  -- number 1: words that are not sound stay as they are, and so does every byte of the output
  pub unsound : (hv : Bool) (n : Counts) (words : List ℕ) (input output : Bytes) → (GoodWords (slot_count n) words → ⊥)
      → run_of hv n words input output ≡ record { words = words; output = output; answered = 0; taken = 0; stop = 1 }
  -- 5 to 13, 15 and 16: a command that is answered by a refusal leaves registers, entries, used bits and miss records, in whatever state
  pub refused : (hv : Bool) (u : State) (c : Command) → get_or (unit_bytes hv u c) 0 0 ≡ 5 → (step hv u c).state ≡ u
  -- and 5 to 12, 15 and 16 it gets from the ledger's registers and lookups and the stream's mark, in every sound state
  pub numbered : (hv : Bool) (n : Counts) (k : Reference) → ReferenceGood (slot_count n) k → (c : Command)
      → (first_no (questions hv k.ledger c) ≡ 0 → ⊥)
      → unit_bytes hv (state_of n (reference_words k)) c ≡ line 5 (first_no (questions hv k.ledger c)) 0 0 0 0
  -- no byte past the answers is written, whatever is passed
  pub past : (hv : Bool) (n : Counts) (words : List ℕ) (input output : Bytes) →
      let o : Outcome = run_of hv n words input output in
      drop (o.answered * 24) o.output ≡ drop (o.answered * 24) output
  -- a served miss: words that are not sound stay; and so does the state where the answer is a refusal or "not in table"
  pub miss_unsound : (n : Counts) (words : List ℕ) (strand side : ℕ) (of_zero of_other : Bytes) → (GoodWords (slot_count n) words → ⊥)
      → served_of n words strand side of_zero of_other ≡ record { words = words; answer = answer.Unsound }
  pub miss_refused : (n : Counts) (u : State) (strand side : ℕ) (of_zero of_other : Bytes) → sound n u ≡ true
      → 5 ≤ get_or (answer_bytes (serve u strand side of_zero of_other).answer) 0 0
      → (serve u strand side of_zero of_other).state ≡ u
