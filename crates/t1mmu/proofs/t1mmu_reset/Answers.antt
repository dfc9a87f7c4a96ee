-- `t1mmu::t1mmu_reset` meets its contract, by what `state::reset` ensures.
use Rattle.t1mmu.proofs.Calls.{reset-call}
use Rattle.t1mmu.proofs.t1mmu_reset.Goals as goal

pub returns : goal.returns
returns c =
    let (words, (number, told)) = reset-call _ _ _ c.reset.ensures.words c.reset.ensures.number in
    record { words = words; number = number; told = told }
