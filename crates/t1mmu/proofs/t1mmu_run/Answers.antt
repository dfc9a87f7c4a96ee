-- `t1mmu::t1mmu_run` meets its contract, by what `stream::run` ensures.
use Rattle.machine.proofs.Guests.{guests-sold, mark-alone}
use Rattle.t1mmu.proofs.Calls.{run_call}
use Rattle.t1mmu.proofs.t1mmu_run.Goals as goal

pub returns : goal.returns
returns c =
    let (told, (equal, (lists, demand3))) = run_call _ _ _ _ _ _ _ c.run.ensures in
    record { told = told; equal = equal; lists = lists; demand3 = demand3; guests = guests-sold; mark = mark-alone }
