-- `questions::ask_insert` meets its contract: 5 and 6, then its own, question by question.
use Rattle.std.proofs.Common.{Ok, Result}
use Rattle.std.proofs.lemmas.Result.{err_from_is_err_and}
use Rattle.std.specs.Result.{result_and}
use native.Mathlib.Omega.{arith}
use Prim.Native.Nat.{ℕ, ◌<◌}
use mathlib.Core.Path.{◌≡◌}
use mathlib.Core.Bool.{Bool, true}
use borrow.Author.Tests.{lt-ltb, le-ltb}
use lib.Dec.{leb, eqb}
use Rattle.machine.specs.Pages.{in_range}
use Rattle.machine.specs.Words.{word_insertable}
use Rattle.machine.specs.Registers.{mode, tag_access, tag_address}
use Rattle.machine.specs.Permission.{permitted, least_mode}
use Rattle.machine.specs.Insertion.{candidate, has_slot}
use Rattle.machine.specs.State.{State, state_in, side_of}
use Rattle.machine.specs.Questions.{asked, asked_insertion, insertion, ask}
use Rattle.machine.specs.declared.Command.TheVariants as command
use Rattle.machine.specs.declared.VirtualAddress.{VirtualAddress}
use Rattle.questions.specs.Verdicts.{asked_side}
use Rattle.questions.proofs.Asks.{After, all, yes, no, none, passed, same-strand, same-side, refused, held, failed}
use Rattle.questions.proofs.ask_insert.Goals as goal
use Rattle.machine.specs.declared.Refusal.{Refusal}

-- what is left of the definition's questions once so many are answered yes
module _ (hv : Bool) (u : State) (strand side flags word : ℕ) {w : Result (ℕ × ℕ) Refusal} {y : ℕ × ℕ}
    (asks : w ≡ result_and (ask (asked_side strand side)) (Ok (strand, side))) (passes : w ≡ Ok y) where
  abbrev Past : ℕ → Type 0
  Past = After hv u (command.Insert strand side flags word)

  left-2 : Past 2
  unfolding asked asked_insertion
  left-2 = passed (asked_side strand side) (strand, side) asks _ passes (all hv _ _)

  left-3 : flags < 4 → Past 3
  unfolding asked asked_insertion
  left-3 f = yes left-2 (lt-ltb _ 4 f)

  left-4 : flags < 4 → leb (least_mode (eqb flags 0)) (mode u.registers strand) ≡ true → Past 4
  unfolding asked asked_insertion permitted
  left-4 f m = yes (left-3 f) m

  left-5 : flags < 4 → leb (least_mode (eqb flags 0)) (mode u.registers strand) ≡ true
      → in_range (tag_address (tag_access u.registers strand side)).0 ≡ true → Past 5
  unfolding asked asked_insertion
  left-5 f m a = yes (left-4 f m) a

  left-6 : flags < 4 → leb (least_mode (eqb flags 0)) (mode u.registers strand) ≡ true
      → in_range (tag_address (tag_access u.registers strand side)).0 ≡ true → word_insertable word ≡ true → Past 6
  unfolding asked asked_insertion
  left-6 f m a w = yes (left-5 f m a) w

-- the code asks of the address what the definition asks
address : (u : State) (strand side tag : ℕ) (x : VirtualAddress) (r : Bool) → tag ≡ tag_access u.registers strand side → x ≡ tag_address tag
    → r ≡ in_range x.0 → r ≡ in_range (tag_address (tag_access u.registers strand side)).0
address u strand side tag x r e f g = rw (f, e) at g

pub returns-in_err-strand : goal.returns-in_err-strand
unfolding asked asked_insertion
returns-in_err-strand c hv =
    let a = c.args in
    let p = err_from_is_err_and c.from_residual.result c.from_residual.ensures.1 in
    rw (p.1, p.2) (refused (asked_side a.strand a.side) (a.strand, a.side) c.ask_side.ensures _ c.in_err-strand.was (all hv _ _))

pub returns-then-flags-ge4 : goal.returns-then-flags-ge4
unfolding asked asked_insertion permitted
returns-then-flags-ge4 c hv =
    let a = c.args in
    no (left-2 hv _ a.strand a.side a.flags a.word c.ask_side.ensures c.in_ok-strand.was) (le-ltb _ 4 (omega arith))

pub returns-then-not-mode_allows : goal.returns-then-not-mode_allows
unfolding asked asked_insertion permitted
returns-then-not-mode_allows c hv =
    let a = c.args in
    let s = same-strand (asked_side a.strand a.side) a.strand a.side c.ask_side.ensures c.in_ok-strand.was in
    let u = state_in a.state.now in
    let l3 = left-3 hv u a.strand a.side a.flags a.word c.ask_side.ensures c.in_ok-strand.was (omega arith) in
    no l3 (failed (rw s at c.mode_allows.ensures) c.if-not-mode_allows.true)

pub returns-then-not-in_range : goal.returns-then-not-in_range
unfolding asked asked_insertion permitted
returns-then-not-in_range c hv =
    let a = c.args in
    let s = same-strand (asked_side a.strand a.side) a.strand a.side c.ask_side.ensures c.in_ok-strand.was in
    let d = same-side (asked_side a.strand a.side) a.strand a.side c.ask_side.ensures c.in_ok-strand.was in
    let u = state_in a.state.now in
    let l4 = left-4 hv u a.strand a.side a.flags a.word c.ask_side.ensures c.in_ok-strand.was (omega arith) (held (rw s at c.mode_allows.ensures) c.if-not-mode_allows.false) in
    no l4 (failed (address u a.strand a.side _ _ _ (rw (s, d) at c.tag_of.ensures) c.tag_address.ensures c.in_range.ensures) c.if-not-in_range.true)

pub returns-then-not-word_insertable : goal.returns-then-not-word_insertable
unfolding asked asked_insertion permitted
returns-then-not-word_insertable c hv =
    let a = c.args in
    let s = same-strand (asked_side a.strand a.side) a.strand a.side c.ask_side.ensures c.in_ok-strand.was in
    let d = same-side (asked_side a.strand a.side) a.strand a.side c.ask_side.ensures c.in_ok-strand.was in
    let u = state_in a.state.now in
    let l5 = left-5 hv u a.strand a.side a.flags a.word c.ask_side.ensures c.in_ok-strand.was (omega arith) (held (rw s at c.mode_allows.ensures) c.if-not-mode_allows.false)
    (held (address u a.strand a.side _ _ _ (rw (s, d) at c.tag_of.ensures) c.tag_address.ensures c.in_range.ensures) c.if-not-in_range.false) in
    no l5 (failed c.word_insertable.ensures.insertable c.if-not-word_insertable.true)

-- the code asks of the slots what the definition asks
pub returns-then-not-slot_to_be_had : goal.returns-then-not-slot_to_be_had
unfolding asked asked_insertion permitted
returns-then-not-slot_to_be_had c hv =
    let a = c.args in
    let s = same-strand (asked_side a.strand a.side) a.strand a.side c.ask_side.ensures c.in_ok-strand.was in
    let d = same-side (asked_side a.strand a.side) a.strand a.side c.ask_side.ensures c.in_ok-strand.was in
    let u = state_in a.state.now in
    let l6 =
    left-6 hv u a.strand a.side a.flags a.word c.ask_side.ensures c.in_ok-strand.was (omega arith) (held (rw s at c.mode_allows.ensures) c.if-not-mode_allows.false)
    (held (address u a.strand a.side _ _ _ (rw (s, d) at c.tag_of.ensures) c.tag_address.ensures c.in_range.ensures) c.if-not-in_range.false) (held c.word_insertable.ensures.insertable c.if-not-word_insertable.false) in
    let slot : c.slot_to_be_had.result ≡ has_slot candidate (insertion u a.strand a.side a.flags a.word) (side_of u a.side) =
    rw (c.entry_for.ensures, s, d) at c.slot_to_be_had.ensures in
    no l6 (failed slot c.if-not-slot_to_be_had.true)

pub returns : goal.returns
unfolding asked asked_insertion permitted
returns c hv =
    let a = c.args in
    let s = same-strand (asked_side a.strand a.side) a.strand a.side c.ask_side.ensures c.in_ok-strand.was in
    let d = same-side (asked_side a.strand a.side) a.strand a.side c.ask_side.ensures c.in_ok-strand.was in
    let u = state_in a.state.now in
    let l6 =
    left-6 hv u a.strand a.side a.flags a.word c.ask_side.ensures c.in_ok-strand.was (omega arith) (held (rw s at c.mode_allows.ensures) c.if-not-mode_allows.false)
    (held (address u a.strand a.side _ _ _ (rw (s, d) at c.tag_of.ensures) c.tag_address.ensures c.in_range.ensures) c.if-not-in_range.false) (held c.word_insertable.ensures.insertable c.if-not-word_insertable.false) in
    let slot : c.slot_to_be_had.result ≡ has_slot candidate (insertion u a.strand a.side a.flags a.word) (side_of u a.side) =
    rw (c.entry_for.ensures, s, d) at c.slot_to_be_had.ensures in
    none (yes l6 (held slot c.if-not-slot_to_be_had.false))
