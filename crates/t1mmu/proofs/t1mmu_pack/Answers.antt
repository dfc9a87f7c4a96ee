-- `t1mmu::t1mmu_pack` meets its contract, by what `tte::pack` ensures.
use Rattle.t1mmu.proofs.Calls.{pack-call}
use Rattle.t1mmu.proofs.t1mmu_pack.Goals as goal

pub returns : goal.returns
returns c =
    let (word, (again, told)) = pack-call _ _ c.pack.ensures.word c.pack.ensures.again in
    record { word = word; again = again; told = told }
