use Prim.Native.Nat.{◌≤◌, ◌-◌}
use mathlib.Core.Path.{◌≡◌}
use lib.ListN.{drop}
use Rattle.laws.specs.Tests.{first, first_from}
use Rattle.machine.specs.Slots.{slots_of}
use Rattle.machine.specs.Insertion.{candidate, wants}
use Rattle.tlb_update.proofs.lowest.Given as goal

abbrev pub invariant-loop-i : goal.invariant-loop-i
invariant-loop-i l = (l.i ≤ l.n) × (first (wants candidate l.wanted) (slots_of l.slots) ≡ first_from (wants candidate l.wanted) l.i (drop l.i (slots_of l.slots)))

abbrev pub decreases-loop-i : goal.decreases-loop-i
decreases-loop-i l = l.n - l.i
