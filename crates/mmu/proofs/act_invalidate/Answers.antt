-- `mmu::act_invalidate` meets its contract.
use mathlib.Core.Path.{refl}
use Rattle.machine.specs.Step.{act}
use Rattle.mmu.proofs.act_invalidate.Goals as goal

pub returns : goal.returns
unfolding act
returns c = record { words = c.remove_side.ensures.words; answer = refl }
