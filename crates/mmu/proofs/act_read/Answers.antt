-- `mmu::act_read` meets its contract.
use Rattle.machine.specs.Step.{act}
use Rattle.mmu.proofs.act_read.Goals as goal

pub returns : goal.returns
unfolding act
returns c = rw c.read_register.ensures.read
