use Rattle.std.proofs.Common.{◌*◌, ◌≤◌}
use Rattle.machine.specs.Slots.{slots_of}
use Rattle.tlb.proofs.Seen.{Seen}
use Rattle.tlb.proofs.search_starts.Given as goal

abbrev pub invariant-loop-k : goal.invariant-loop-k
invariant-loop-k l = (l.compared ≤ l.k * 16) × Seen l.owner l.start (slots_of l.slots) l.compared (l.k * 16)
