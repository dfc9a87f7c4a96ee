use Rattle.std.proofs.Common.{◌≡◌, Bool, map, drop, All}
use Rattle.laws.specs.Tests.{any_of}
use Rattle.machine.specs.declared.Slot.{Slot}
use Rattle.tlb.specs.Rows.{row_slot, AsksSlot}
use Rattle.tlb.proofs.none_passes.Given as goal

abbrev pub invariant-loop-row : goal.invariant-loop-row
invariant-loop-row g l = (p : Slot → Bool) → All (AsksSlot g.F.Fn l.test p) l.rows
    → any_of p (map row_slot l.rows) ≡ any_of p (drop l.row-index (map row_slot l.rows))
