-- `t1mmu::t1mmu_unpack` meets its contract, by what `tte::unpack` ensures.
use Rattle.t1mmu.proofs.Calls.{unpack-call}
use Rattle.t1mmu.proofs.t1mmu_unpack.Goals as goal

pub returns : goal.returns
returns c =
    let (fields, (again, told)) = unpack-call _ _ c.unpack.ensures.fields c.unpack.ensures.again in
    record { fields = fields; again = again; told = told }
