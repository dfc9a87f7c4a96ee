-- `questions::ask_context` meets its contract: 5 and 6, then 7.
use Rattle.std.proofs.Common.{Ok, Result}
use Rattle.std.proofs.lemmas.Result.{err_from_is_err_and}
use Rattle.std.specs.Result.{result_and}
use Prim.Native.Nat.{ℕ}
use mathlib.Core.Path.{◌≡◌}
use mathlib.Core.List.{[], ◌∷◌}
use Rattle.machine.specs.declared.Refusal.TheVariants as refusal
use Rattle.machine.specs.Questions.{question, selector_fits, ask}
use Rattle.questions.specs.Verdicts.{asked_side, asked_context}
use Rattle.questions.proofs.Asks.{Left, every, yes, no, none, passed, same-strand, same-side, refused, held, failed}
use Rattle.questions.proofs.ask_context.Goals as goal
use Rattle.machine.specs.declared.Refusal.{Refusal}

-- what is left once 5 and 6 passed
left-2 : {w : Result (ℕ × ℕ) Refusal} {y : ℕ × ℕ} (strand side selector : ℕ) → w ≡ result_and (ask (asked_side strand side)) (Ok (strand, side)) → w ≡ Ok y
    → Left (ask (asked_context strand side selector)) (question refusal.Selector (selector_fits side selector) ∷ [])
left-2 strand side selector p e = passed (asked_side strand side) (strand, side) p _ e (every (asked_context strand side selector))

pub returns-in_err-strand : goal.returns-in_err-strand
returns-in_err-strand c =
    let a = c.args in
    let p = err_from_is_err_and c.from_residual.result c.from_residual.ensures.1 in
    rw (p.1, p.2, ← refused (asked_side a.strand a.side) (a.strand, a.side) c.ask_side.ensures _ c.in_err-strand.was (every (asked_context a.strand a.side a.selector)))

pub returns-then-not-selector_fits : goal.returns-then-not-selector_fits
returns-then-not-selector_fits c =
    let a = c.args in
    let asked = rw (same-side (asked_side a.strand a.side) a.strand a.side c.ask_side.ensures c.in_ok-strand.was) at c.selector_fits.ensures in
    rw (← no (left-2 a.strand a.side a.selector c.ask_side.ensures c.in_ok-strand.was) (failed asked c.if-not-selector_fits.true))

pub returns : goal.returns
returns c =
    let a = c.args in
    let asked = rw (same-side (asked_side a.strand a.side) a.strand a.side c.ask_side.ensures c.in_ok-strand.was) at c.selector_fits.ensures in
    rw (← none (yes (left-2 a.strand a.side a.selector c.ask_side.ensures c.in_ok-strand.was) (held asked c.if-not-selector_fits.false)), same-strand (asked_side a.strand a.side) a.strand a.side c.ask_side.ensures c.in_ok-strand.was)
