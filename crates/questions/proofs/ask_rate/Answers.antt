-- `questions::ask_rate` meets its contract: 5, 6 and 16, then its own.
use Rattle.std.proofs.Common.{Ok, Result}
use Rattle.std.proofs.lemmas.Result.{err_from_is_err_and}
use Rattle.std.specs.Result.{result_and}
use Prim.Native.Nat.{ℕ}
use mathlib.Core.Path.{◌≡◌, ap, sym, ◌∙◌}
use mathlib.Core.Bool.{Bool, true, not}
use borrow.Author.Tests.{eq-eqb, ne_eqb}
use lib.Dec.{eqb}
use Rattle.machine.specs.State.{State, state_in}
use Rattle.machine.specs.Permission.{permitted}
use Rattle.machine.specs.Questions.{asked, ask}
use Rattle.machine.specs.declared.Command.TheVariants as command
use Rattle.questions.specs.Verdicts.{asked_open}
use Rattle.questions.proofs.Asks.{After, all, yes, no, none, passed, same-strand, same-side, refused}
use Rattle.questions.proofs.ask_rate.Goals as goal
use Rattle.machine.specs.declared.Refusal.{Refusal}

left-3 : {w : Result (ℕ × ℕ) Refusal} {y : ℕ × ℕ} (hv : Bool) (u : State) (strand side : ℕ) → w ≡ result_and (ask (asked_open u.registers strand side true)) (Ok (strand, side)) → w ≡ Ok y
    → After hv u (command.Rate strand side) 3
unfolding asked permitted
left-3 hv u strand side p e = passed (asked_open u.registers strand side true) (strand, side) p _ e (all hv _ _)

pub returns-in_err-strand : goal.returns-in_err-strand
unfolding asked permitted
returns-in_err-strand c hv =
    let a = c.args in
    let p = err_from_is_err_and c.from_residual.result c.from_residual.ensures.1 in
    rw (p.1, p.2) (refused (asked_open (state_in a.state.now).registers a.strand a.side true) (a.strand, a.side) c.ask_open.ensures _ c.in_err-strand.was (all hv _ _))

pub returns-then-lookups_kept-eq0 : goal.returns-then-lookups_kept-eq0
unfolding asked
returns-then-lookups_kept-eq0 c hv =
    let a = c.args in
    let k = c.lookups_kept in
    let kept = rw (same-strand (asked_open (state_in a.state.now).registers a.strand a.side true) a.strand a.side c.ask_open.ensures c.in_ok-strand.was, same-side (asked_open (state_in a.state.now).registers a.strand a.side true) a.strand a.side c.ask_open.ensures c.in_ok-strand.was) at k.ensures in
    no (left-3 hv _ a.strand a.side c.ask_open.ensures c.in_ok-strand.was)
    (ap (λ n. not (eqb n 0)) (sym kept) ∙ ap not (eq-eqb k.result 0 c.if-lookups_kept-eq0.true))

pub returns : goal.returns
unfolding asked
returns c hv =
    let a = c.args in
    let k = c.lookups_kept in
    let kept = rw (same-strand (asked_open (state_in a.state.now).registers a.strand a.side true) a.strand a.side c.ask_open.ensures c.in_ok-strand.was, same-side (asked_open (state_in a.state.now).registers a.strand a.side true) a.strand a.side c.ask_open.ensures c.in_ok-strand.was) at k.ensures in
    none (yes (left-3 hv _ a.strand a.side c.ask_open.ensures c.in_ok-strand.was)
    (ap (λ n. not (eqb n 0)) (sym kept) ∙ ap not (ne_eqb k.result 0 c.if-lookups_kept-eq0.false)))
