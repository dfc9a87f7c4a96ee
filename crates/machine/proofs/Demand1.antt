-- Demand 1 is met. Assumes nothing.
use Rattle.std.proofs.Common.{Some, None, Ok, Err, Option, Result}
use Prim.Native.Nat.{ℕ, ◌≤◌}
use mathlib.Core.Path.{◌≡◌, refl, sym, ◌∙◌}
use mathlib.Core.Bool.{Bool, true, false, not}
use mathlib.Core.List.{List}
use native.Mathlib.Omega.{arith}
use lib.Dec.{eqb}
use lib.ListN.{get_or}
use borrow.Author.Tests.{ne_eqb}
use Rattle.laws.specs.Tests.{all_of}
use Rattle.laws.proofs.Bools.{by-test, clash, and_left, and_right}
use Rattle.machine.specs.Slots.{no_slot, Looked, hit, miss, lookup}
use Rattle.machine.specs.Insertion.{candidate, placed}
use Rattle.machine.specs.State.{Counts, slot_count, State, side_of, state_of, encode, words_sound}
use Rattle.machine.specs.Questions.{insertion, asked_insertion, asked, ask, verdict}
use Rattle.machine.specs.Access.{Stepped, lookup_key, prepare, judge, translated_by, settle_judged, settle_looked, settle}
use Rattle.machine.specs.Step.{placed_answer, act, step_by, step, insert_step}
use Rattle.machine.specs.Stream.{Bytes, answer_bytes}
use Rattle.machine.specs.Serve.{served_of}
use Rattle.machine.specs.Ledger.{line, first_no, questions, enters, Miss}
use Rattle.machine.specs.Places.{Reference, reference_words}
use Rattle.machine.specs.Demand3.{unit_bytes}
use Rattle.machine.specs.Good.{ReferenceGood}
use Rattle.machine.specs.Demand1.{Demand1}
use Rattle.machine.specs.declared.Access.{Access}
use Rattle.machine.specs.declared.Translation.{Translation}
use Rattle.machine.specs.declared.Prepared.{Prepared}
use Rattle.machine.specs.declared.Prepared.TheVariants as prepared
use Rattle.machine.specs.declared.Command.{Command}
use Rattle.machine.specs.declared.Command.TheVariants as command
use Rattle.machine.specs.declared.Answer.TheVariants as answer
use Rattle.machine.proofs.Insertion.{is_refused, slot-had}
use Rattle.machine.proofs.State.{Insertable, insertable, insert-insertable, sound-encode}
use Rattle.machine.proofs.Runs.{run_past, run-unsound}
use Rattle.machine.proofs.Demand3.{step-says, alike-sound, alike-words}
use Rattle.machine.proofs.Good.{state_for, good-alike, state-alike, unsound-words}
use Rattle.machine.proofs.Misses.{MissAlike, refuses, lacks, inserts, miss-alike}
use Rattle.machine.specs.declared.Refusal.{Refusal}
use Rattle.machine.specs.declared.Trap.{Trap}
use Rattle.machine.specs.declared.Slot.{Slot}
use Rattle.machine.specs.declared.NoSlot.{NoSlot}

ruleset conj = (and_left, and_right)

-- ---- a command that was not refused does not say so
judged-kind : (u : State) (a : Access) (p : Translation) (j : Result (Unit {0}) Trap) → 5 ≤ get_or (answer_bytes (settle_judged u a p j).answer) 0 0 → ⊥
unfolding answer_bytes
judged-kind u a p (Err t) h = omega arith
judged-kind u a p (Ok _) h = omega arith

looked-kind : (u : State) (a : Access) (f : Looked) → 5 ≤ get_or (answer_bytes (settle_looked u a f).answer) 0 0 → ⊥
unfolding answer_bytes
looked-kind u a miss h = omega arith
looked-kind u a (hit i r) h =
    let word : ℕ = (get_or (side_of u a.side) i no_slot).word in
    judged-kind _ a (translated_by word r) (judge u.registers a word) h

settled-kind : (u : State) (a : Access) (p : Prepared) → 5 ≤ get_or (answer_bytes (settle u a p).answer) 0 0 → ⊥
unfolding answer_bytes
settled-kind u a (prepared.Stopped t tag) h = omega arith
settled-kind u a (prepared.Bypass p) h = omega arith
settled-kind u a prepared.Lookup h = looked-kind u a (lookup (lookup_key u.registers a) (side_of u a.side)) h

placed-kind : (r : Result (Option Slot) NoSlot) → not (is_refused r) ≡ true → 5 ≤ get_or (answer_bytes (placed_answer r)) 0 0 → ⊥
unfolding answer_bytes
placed-kind (Ok None) t h = omega arith
placed-kind (Ok (Some x)) t h = omega arith
placed-kind (Err _) t h = clash t refl

insert-kind : (u : State) (strand side flags word : ℕ) → Insertable u strand side flags word
    → 5 ≤ get_or (answer_bytes (act u (command.Insert strand side flags word)).answer) 0 0 → ⊥
unfolding act
insert-kind u strand side flags word i h =
    let new = insertion u strand side flags word in
    placed-kind (placed candidate new (side_of u side)) (sym (slot-had candidate new (side_of u side)) ∙ i.slot) h

passed-kind : (hv : Bool) (u : State) (c : Command) → verdict hv u c ≡ Ok tt → 5 ≤ get_or (answer_bytes (act u c).answer) 0 0 → ⊥
unfolding answer_bytes act asked all_of
passed-kind hv u (command.Write strand number value) v h = omega arith
passed-kind hv u (command.Insert strand side flags word) v h =
    insert-kind u strand side flags word (insert-insertable hv u strand side flags word v).2 h
passed-kind hv u (command.DemapPage strand side selector flags address) v h = omega arith
passed-kind hv u (command.DemapContext strand side selector) v h = omega arith
passed-kind hv u (command.DemapAll strand side) v h = omega arith
passed-kind hv u (command.Invalidate side) v h = omega arith
passed-kind hv u (command.Access strand kind selector size address) v h = settled-kind u _ (prepare u.registers _) h
passed-kind hv u (command.Read strand number) v h = omega arith
passed-kind hv u (command.Pointers strand side) v h = omega arith
passed-kind hv u (command.Rate strand side) v h = omega arith

refusal-leaves : (hv : Bool) (u : State) (c : Command) → get_or (answer_bytes (step hv u c).answer) 0 0 ≡ 5 → (step hv u c).state ≡ u
unfolding step
refusal-leaves hv u c = go (verdict hv u c) refl
  where
    go : (v : Result (Unit {0}) Refusal) → verdict hv u c ≡ v → get_or (answer_bytes (step_by v u c).answer) 0 0 ≡ 5 → (step_by v u c).state ≡ u
    go (Ok _) e h = absurd (passed-kind hv u c e (omega arith))
    go (Err r) e h = refl

-- ---- a served miss
inserted-leaves : (u : State) (strand side word : ℕ) → 5 ≤ get_or (answer_bytes (insert_step u strand side 0 word).answer) 0 0
    → (insert_step u strand side 0 word).state ≡ u
unfolding insert_step
inserted-leaves u strand side word = go (ask (asked_insertion u strand side 0 word)) refl
  where
    c : Command
    c = command.Insert strand side 0 word

    go : (v : Result (Unit {0}) Refusal) → ask (asked_insertion u strand side 0 word) ≡ v → 5 ≤ get_or (answer_bytes (step_by v u c).answer) 0 0 → (step_by v u c).state ≡ u
    go (Ok _) e h = absurd (insert-kind u strand side 0 word (insertable u strand side 0 word e) h)
    go (Err r) e h = refl

miss-leaves : (u : State) (strand side : ℕ) {m : Miss} {t : Stepped} → MissAlike u strand side m t → 5 ≤ get_or (answer_bytes t.answer) 0 0 → t.state ≡ u
miss-leaves u strand side (refuses r) h = refl
miss-leaves u strand side lacks h = refl
miss-leaves u strand side (inserts word s d) h = inserted-leaves u strand side word h

number-told : (hv : Bool) (n : Counts) (k : Reference) → ReferenceGood (slot_count n) k → (c : Command)
    → (first_no (questions hv k.ledger c) ≡ 0 → ⊥)
    → unit_bytes hv (state_of n (reference_words k)) c ≡ line 5 (first_no (questions hv k.ledger c)) 0 0 0 0
unfolding enters
number-told hv n k g c e =
    let h = good-alike n k g in
    let back : state_of n (encode (state_for n k g)) ≡ state_for n k g = sound-encode n _ (alike-sound n _ k.ledger h.ledger) in
    let t : eqb (first_no (questions hv k.ledger c)) 0 ≡ false = ne_eqb _ 0 e in
    rw (← (alike-words h), back) (sym (rw t at (step-says hv n (state_for n k g) k c h).bytes))

unsound-served : (n : Counts) (words : List ℕ) (strand side : ℕ) (of_zero of_other : Bytes) → words_sound n words ≡ false
    → served_of n words strand side of_zero of_other ≡ record { words = words; answer = answer.Unsound }
unfolding served_of
unsound-served n words strand side of_zero of_other e = rw e

pub demand1 : Demand1
demand1 = record {
  unsound = λ hv n words input output f. run-unsound hv n words input output (unsound-words n words f);
  refused = refusal-leaves;
  numbered = number-told;
  miss_unsound = λ n words strand side of_zero of_other f. unsound-served n words strand side of_zero of_other (unsound-words n words f);
  miss_refused = λ n u strand side of_zero of_other s. miss-leaves u strand side (miss-alike (state-alike n u s).ledger strand side of_zero of_other);
  past = λ hv n words input output. by-test _ (run_past hv n words input output) (λ e. rw (run-unsound hv n words input output e));
}
