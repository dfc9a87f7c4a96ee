-- `tlb::overlaps_row` meets its contract: the distance, then the definition.
use Rattle.std.proofs.Common.{sym, ◌∙◌, ltb-false}
use Rattle.tlb.specs.Rows.{row_slot}
use Rattle.tlb.proofs.Asked.{over-far}
use Rattle.tlb.proofs.overlaps_row.Goals as goal

pub returns-else-is_near : goal.returns-else-is_near
returns-else-is_near c =
    c.if-is_near.false
    ∙ sym (over-far c.args.x (row_slot c.args.row.now) (rw (← c.requires) (ltb-false _ _ (sym c.is_near.ensures ∙ c.if-is_near.false))))
