-- `mmu::act_write` meets its contract.
use mathlib.Core.Path.{refl}
use Rattle.machine.specs.Step.{act}
use Rattle.mmu.proofs.act_write.Goals as goal

pub returns : goal.returns
unfolding act
returns c = record { words = c.write_register.ensures; answer = refl }
