-- `t1mmu::t1mmu_run_hypervisor` meets its contract, by what `stream::run` ensures.
use Rattle.machine.proofs.Guests.{mark-alone}
use Rattle.t1mmu.proofs.Calls.{run_call}
use Rattle.t1mmu.proofs.t1mmu_run_hypervisor.Goals as goal

pub returns : goal.returns
returns c =
    let (told, (equal, (lists, demand3))) = run_call _ _ _ _ _ _ _ c.run.ensures in
    record { told = told; equal = equal; lists = lists; demand3 = demand3; mark = mark-alone }
