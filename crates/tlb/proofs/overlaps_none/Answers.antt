-- `tlb::overlaps_none` meets its contract.
use Rattle.std.proofs.Common.{◌≡◌, ◌∙◌, ap, not, List, ℕ, rules}
use Rattle.laws.specs.Tests.{any_of}
use Rattle.machine.specs.Insertion.{overlaps}
use Rattle.machine.specs.declared.Slot.{Slot}
use Rattle.tlb.specs.Rows.{row_slot}
use Rattle.tlb.proofs.ByRow.{later_is}
use Rattle.tlb.proofs.overlaps_none.Goals as goal

pub returns : goal.returns
returns c =
    let x = c.args.x in
    c.none_passes.ensures (overlaps x)
    (λ k d h p r e q. let z : r ≡ overlaps x (row_slot p.now) = search rules in z ∙ ap (λ (row : List ℕ). overlaps x (row_slot row)) e)
    ∙ ap (λ (s : List Slot). not (any_of (overlaps x) s)) (later_is c.rows-rows.result.now c.args.slots.now c.rows-rows.ensures c.args.from _ c.min.ensures)
