-- `mmu::act_demap_context` meets its contract.
use Rattle.machine.specs.Step.{act}
use Rattle.mmu.proofs.act_demap_context.Goals as goal

pub returns : goal.returns
unfolding act
returns c = rw (c.selected_context-context.ensures, c.read_register-partition.ensures.read) at c.act_demap.ensures
