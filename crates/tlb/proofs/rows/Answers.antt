-- `tlb::rows` meets its contract.
use Rattle.std.proofs.Common.{refl}
use Rattle.tlb.proofs.ByRow.{cut_rows}
use Rattle.tlb.proofs.rows.Goals as goal

pub returns : goal.returns
returns c = rw c.as_chunks.ensures.front (cut_rows c.args.slots.now _ refl)
