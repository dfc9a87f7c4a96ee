use Rattle.std.proofs.Common.{◌≡◌}
use Rattle.machine.specs.Slots.{without_used}
use Rattle.machine.proofs.Slots.{replaced}
use Rattle.tlb.proofs.clear_used.Given as goal

abbrev pub invariant-loop-i : goal.invariant-loop-i
invariant-loop-i l = l.slots ≡ replaced without_used l.i l.initial.slots
