-- `questions::ask_invalidate` meets its contract, question by question.
use Rattle.std.proofs.lemmas.Result.{err_from_is_err_and}
use mathlib.Core.Path.{◌∙◌}
use mathlib.Core.List.{[], ◌∷◌}
use lib.Dec.{ltb}
use Rattle.machine.specs.Permission.{permitted}
use Rattle.machine.specs.Questions.{asked, question}
use Rattle.machine.specs.declared.Refusal.TheVariants as refusal
use Rattle.questions.proofs.Asks.{all, yes, no, none, passed, refused, asked-below}
use Rattle.questions.proofs.ask_invalidate.Goals as goal

pub returns-in_err-ok_or : goal.returns-in_err-ok_or
unfolding asked permitted
returns-in_err-ok_or c =
    let side = c.args.side in
    let p = err_from_is_err_and c.from_residual.result c.from_residual.ensures.1 in
    let told = c.ok_or.ensures.value ∙ asked-below _ side 2 _ c.new.ensures in
    rw (p.1, p.2) (refused (question refusal.Side (ltb side 2) ∷ []) side told _ c.in_err-ok_or.was (all _ _ _))

pub returns-then-not-hypervisor : goal.returns-then-not-hypervisor
unfolding asked permitted
returns-then-not-hypervisor c =
    let side = c.args.side in
    let told = c.ok_or.ensures.value ∙ asked-below _ side 2 _ c.new.ensures in
    no (passed (question refusal.Side (ltb side 2) ∷ []) side told _ c.in_ok-ok_or.was (all _ _ _)) c.if-not-hypervisor.true

pub returns : goal.returns
unfolding asked permitted
returns c =
    let side = c.args.side in
    let told = c.ok_or.ensures.value ∙ asked-below _ side 2 _ c.new.ensures in
    none (yes (passed (question refusal.Side (ltb side 2) ∷ []) side told _ c.in_ok-ok_or.was (all _ _ _)) c.if-not-hypervisor.false)
