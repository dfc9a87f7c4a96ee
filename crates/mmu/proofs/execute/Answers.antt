-- `mmu::execute` meets its contract.
use mathlib.Core.Path.{sym, ◌∙◌}
use Rattle.machine.specs.State.{counts}
use Rattle.machine.specs.Step.{step}
use Rattle.machine.proofs.State.{encode-state}
use Rattle.mmu.proofs.Passes.{passed-fit}
use Rattle.mmu.proofs.execute.Goals as goal

pub returns-in-Err : goal.returns-in-Err
unfolding step
returns-in-Err c =
    let e = sym c.question.ensures ∙ c.in-Err.is in
    record { words = rw e (sym (encode-state counts _ c.told-state)); answer = rw e }

pub act_command-requires : goal.act_command-requires
act_command-requires c =
    let e = sym c.question.ensures ∙ c.in_default.is in
    record { sound = c.requires; passed = (_, e); fit = passed-fit _ _ _ e }

pub returns : goal.returns
unfolding step
returns c = rw (sym c.question.ensures ∙ c.in_default.is) c.act_command.ensures
