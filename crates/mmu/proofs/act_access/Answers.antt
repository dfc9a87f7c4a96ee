-- `mmu::act_access` meets its contract: its access is one that the unit has.
use Rattle.machine.specs.Step.{act}
use Rattle.mmu.proofs.act_access.Goals as goal

pub access_to-requires : goal.access_to-requires
access_to-requires c = rw c.access_of-a.ensures (c.requires.fit.1, c.requires.sound)

pub returns : goal.returns
unfolding act
returns c = rw c.access_of-a.ensures at c.access_to.ensures
