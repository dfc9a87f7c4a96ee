use Prim.Native.Nat.{◌-◌}
use Rattle.machine.specs.Insertion.{removes}
use Rattle.tlb_update.proofs.Walked.{Walked}
use Rattle.tlb_update.proofs.remove.Given as goal

abbrev pub invariant-loop-i : goal.invariant-loop-i
invariant-loop-i l = Walked (removes l.which) l.initial.slots l.i l.slots l.taken

abbrev pub decreases-loop-i : goal.decreases-loop-i
decreases-loop-i l = l.n - l.i
