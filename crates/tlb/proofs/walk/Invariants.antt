use Rattle.std.proofs.Common.{◌≤◌, map}
use Rattle.tlb.specs.Rows.{row_slot}
use Rattle.tlb.proofs.Seen.{Seen}
use Rattle.tlb.proofs.walk.Given as goal

abbrev pub invariant-loop-i : goal.invariant-loop-i
invariant-loop-i l = (l.compared ≤ l.i) × Seen l.owner l.start (map row_slot l.rows) l.compared l.i
