-- `mmu::displaced_entry` meets its contract: by the contracts of its calls.
use Rattle.mmu.proofs.displaced_entry.Goals as goal

pub returns : goal.returns
returns c = rw (c.partition_of.ensures, c.is_real.ensures, c.context_of.ensures)
