-- `mmu::act_demap_all` meets its contract.
use Rattle.machine.specs.Step.{act}
use Rattle.mmu.proofs.act_demap_all.Goals as goal

pub returns : goal.returns
unfolding act
returns c = rw c.read_register-partition.ensures.read at c.act_demap.ensures
