-- `mmu::act_pointers` meets its contract.
use Rattle.machine.specs.Step.{act}
use Rattle.mmu.proofs.act_pointers.Goals as goal

pub returns : goal.returns
unfolding act
returns c = rw (c.pointer_of.ensures, c.pointer_of-2.ensures, c.at.ensures, c.at-2.ensures)
