-- `tlb_update::next` meets its contract. The invariant: none passes up to turn k.
use Rattle.std.proofs.Common.{◌≡◌, ℕ, List, ap, ◌∙◌, arith, rules}
use Rattle.laws.proofs.Bools.{denies-true}
use Rattle.tlb.specs.Rows.{row_slot}
use Rattle.tlb.proofs.ByRow.{rows_length}
use Rattle.tlb_update.specs.Sieves.{passes}
use Rattle.tlb_update.proofs.Turns.{none_turn}
use Rattle.tlb_update.proofs.next.Goals as goal

pub slice_bounds-as_chunks-count : goal.slice_bounds-as_chunks-count
slice_bounds-as_chunks-count c = omega (arith, rows_length c.rows.result.now _ c.rows.ensures)

pub slice_bounds-as_chunks-start : goal.slice_bounds-as_chunks-start
slice_bounds-as_chunks-start c = omega (arith, rows_length c.rows.result.now _ c.rows.ensures)

pub loop-k-init : goal.loop-k-init
loop-k-init c = (omega arith, omega (arith, c.requires.0), λ j a b. absurd (omega (arith, a, b)))

pub loop-k-preserved : goal.loop-k-preserved
loop-k-preserved c =
    let a = c.args in
    let turns = c.as_chunks.ensures in
    let asked = c.none_passes.ensures (passes a.sieve)
    (λ k d h p r e q. let z : r ≡ passes a.sieve (row_slot p.now) = search rules in z ∙ ap (λ (row : List ℕ). passes a.sieve (row_slot row)) e) in
    none_turn a.sieve a.slots.now a.from c.loop-k.k c.rows.result.now c.rows.ensures _ turns.front (omega (arith, turns.front_len))
    (denies-true asked c.if-not-none_passes.false) c.loop-k.invariant
