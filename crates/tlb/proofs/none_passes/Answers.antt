-- `tlb::none_passes` meets its contract. The invariant: a slot passes exactly where one passes from the row on.
use Rattle.std.proofs.Common.{sym, ap, ◌∙◌, not, refl, arith}
use Rattle.tlb.proofs.ByRow.{row-hit, row-pass, row-end}
use Rattle.tlb.proofs.none_passes.Goals as goal

pub returns-then-test : goal.returns-then-test
returns-then-test g c = λ p asks.
    let at = c.loop-row-test.true in
    let e = asks c.loop-row.row-index _ at _ _ refl c.test.ensures in
    ap not (sym (c.loop-row.invariant p asks ∙ row-hit p c.args.rows.now c.loop-row.row-index _ at (sym e ∙ c.if-test.true)))

pub loop-row-preserved : goal.loop-row-preserved
loop-row-preserved g c = λ p asks.
    let at = c.loop-row-test.true in
    let e = asks c.loop-row.row-index _ at _ _ refl c.test.ensures in
    c.loop-row.invariant p asks ∙ row-pass p c.args.rows.now c.loop-row.row-index _ at (sym e ∙ c.if-test.false)

pub returns : goal.returns
returns g c = λ p asks. ap not (sym (c.loop-row.invariant p asks ∙ row-end p c.args.rows.now c.loop-row.row-index (omega arith)))
