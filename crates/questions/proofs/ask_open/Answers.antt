-- `questions::ask_open` meets its contract: 5 and 6, then 16.
use Rattle.std.proofs.Common.{Ok, Result}
use Rattle.std.proofs.lemmas.Result.{err_from_is_err_and}
use Rattle.std.specs.Result.{result_and}
use Prim.Native.Nat.{ℕ}
use mathlib.Core.Path.{◌≡◌}
use mathlib.Core.Bool.{Bool}
use mathlib.Core.List.{List, [], ◌∷◌}
use lib.Dec.{leb}
use Rattle.machine.specs.Registers.{mode}
use Rattle.machine.specs.Permission.{least_mode}
use Rattle.machine.specs.State.{state_in}
use Rattle.machine.specs.Questions.{question, ask}
use Rattle.machine.specs.declared.Refusal.TheVariants as refusal
use Rattle.questions.specs.Verdicts.{asked_side, asked_open}
use Rattle.questions.proofs.Asks.{Left, every, yes, no, none, passed, same-strand, same-side, refused, held, failed}
use Rattle.questions.proofs.ask_open.Goals as goal
use Rattle.machine.specs.declared.Refusal.{Refusal}

-- what is left once 5 and 6 passed
left-2 : {w : Result (ℕ × ℕ) Refusal} {y : ℕ × ℕ} (file : List ℕ) (strand side : ℕ) (guest : Bool)
    → w ≡ result_and (ask (asked_side strand side)) (Ok (strand, side)) → w ≡ Ok y
    → Left (ask (asked_open file strand side guest)) (question refusal.Permission (leb (least_mode guest) (mode file strand)) ∷ [])
left-2 file strand side guest p e = passed (asked_side strand side) (strand, side) p _ e (every (asked_open file strand side guest))

pub returns-in_err-strand : goal.returns-in_err-strand
returns-in_err-strand c =
    let a = c.args in
    let p = err_from_is_err_and c.from_residual.result c.from_residual.ensures.1 in
    rw (
      p.1,
      p.2,
      ← refused (asked_side a.strand a.side) (a.strand, a.side) c.ask_side.ensures _ c.in_err-strand.was (every (asked_open (state_in a.state.now).registers a.strand a.side a.guest)),
    )

pub returns-then-not-mode_allows : goal.returns-then-not-mode_allows
returns-then-not-mode_allows c =
    let a = c.args in
    let asked = rw (same-strand (asked_side a.strand a.side) a.strand a.side c.ask_side.ensures c.in_ok-strand.was) at c.mode_allows.ensures in
    rw (← no (left-2 (state_in a.state.now).registers a.strand a.side a.guest c.ask_side.ensures c.in_ok-strand.was) (failed asked c.if-not-mode_allows.true))

pub returns : goal.returns
returns c =
    let a = c.args in
    let asked = rw (same-strand (asked_side a.strand a.side) a.strand a.side c.ask_side.ensures c.in_ok-strand.was) at c.mode_allows.ensures in
    rw (
      ← none (yes (left-2 (state_in a.state.now).registers a.strand a.side a.guest c.ask_side.ensures c.in_ok-strand.was) (held asked c.if-not-mode_allows.false)),
      same-strand (asked_side a.strand a.side) a.strand a.side c.ask_side.ensures c.in_ok-strand.was,
      same-side (asked_side a.strand a.side) a.strand a.side c.ask_side.ensures c.in_ok-strand.was,
    )
