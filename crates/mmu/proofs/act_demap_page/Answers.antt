-- `mmu::act_demap_page` meets its contract.
use Rattle.machine.specs.Step.{act}
use Rattle.mmu.proofs.act_demap_page.Goals as goal

pub returns : goal.returns
unfolding act
returns c =
    rw (
      c.key_for-key.ensures,
      c.flag_real.ensures,
      c.selected_context-context.ensures,
      c.read_register-partition.ensures.read,
    ) at c.act_demap.ensures
