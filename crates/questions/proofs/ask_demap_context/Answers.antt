-- `questions::ask_demap_context` meets its contract: 5 to 7, then 16.
use Rattle.std.proofs.Common.{Ok, Result}
use Rattle.std.proofs.lemmas.Result.{err_from_is_err_and}
use Rattle.std.specs.Result.{result_and}
use Prim.Native.Nat.{ℕ}
use mathlib.Core.Path.{◌≡◌}
use mathlib.Core.Bool.{Bool}
use Rattle.machine.specs.State.{State}
use Rattle.machine.specs.Permission.{permitted}
use Rattle.machine.specs.Questions.{asked, ask}
use Rattle.machine.specs.declared.Command.TheVariants as command
use Rattle.questions.specs.Verdicts.{asked_context}
use Rattle.questions.proofs.Asks.{After, all, yes, no, none, passed, kept, refused, held, failed}
use Rattle.questions.proofs.ask_demap_context.Goals as goal
use Rattle.machine.specs.declared.Refusal.{Refusal}

left-3 : {w : Result ℕ Refusal} {y : ℕ} (hv : Bool) (u : State) (strand side selector : ℕ) → w ≡ result_and (ask (asked_context strand side selector)) (Ok strand) → w ≡ Ok y
    → After hv u (command.DemapContext strand side selector) 3
unfolding asked
left-3 hv u strand side selector p e = passed (asked_context strand side selector) strand p _ e (all hv _ _)

pub returns-in_err-strand : goal.returns-in_err-strand
unfolding asked
returns-in_err-strand c hv =
    let a = c.args in
    let p = err_from_is_err_and c.from_residual.result c.from_residual.ensures.1 in
    rw (p.1, p.2) (refused (asked_context a.strand a.side a.selector) a.strand c.ask_context.ensures _ c.in_err-strand.was (all hv _ _))

pub returns-then-not-mode_allows : goal.returns-then-not-mode_allows
unfolding asked permitted
returns-then-not-mode_allows c hv =
    let a = c.args in
    no (left-3 hv _ a.strand a.side a.selector c.ask_context.ensures c.in_ok-strand.was) (failed (rw (kept (asked_context a.strand a.side a.selector) a.strand c.ask_context.ensures c.in_ok-strand.was) at c.mode_allows.ensures) c.if-not-mode_allows.true)

pub returns : goal.returns
unfolding asked permitted
returns c hv =
    let a = c.args in
    none (yes (left-3 hv _ a.strand a.side a.selector c.ask_context.ensures c.in_ok-strand.was) (held (rw (kept (asked_context a.strand a.side a.selector) a.strand c.ask_context.ensures c.in_ok-strand.was) at c.mode_allows.ensures) c.if-not-mode_allows.false))
