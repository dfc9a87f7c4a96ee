-- `tlb::slot_at` meets its contract.
use Rattle.std.proofs.Common.{arith}
use Rattle.tlb.proofs.ByRow.{rows_length}
use Rattle.tlb.proofs.slot_at.Goals as goal

pub bounds-rows-i : goal.bounds-rows-i
bounds-rows-i c = omega (arith, rows_length c.rows.result.now c.args.slots.now c.rows.ensures)
