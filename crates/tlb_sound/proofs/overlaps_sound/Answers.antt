-- `tlb_sound::overlaps_sound` meets its contract: the distance, the owner, bit 63.
use Rattle.std.proofs.Common.{◌/◌, ◌^◌, ◌<◌, eqb, get_or, ltb-true, ltb-false, sym, ◌∙◌, eqb-true}
use lib.Bits.{bit_xor}
use borrow.Author.Tests.{eqb-false}
use Rattle.laws.proofs.Bools.{by-test}
use Rattle.machine.specs.Pages.{page_size}
use Rattle.machine.specs.Slots.{size_code}
use Rattle.machine.specs.declared.Slot.{Slot}
use Rattle.machine.proofs.Sound.{live-parts}
use Rattle.tlb.specs.Rows.{row_slot}
use Rattle.tlb.specs.Tables.{spans_of, compared_by}
use Rattle.tlb.proofs.Asked.{over-far, over-owner, over-empty, over-near}
use Rattle.tlb_sound.proofs.overlaps_sound.Goals as goal

pub returns-then-is_near : goal.returns-then-is_near
unfolding compared_by
returns-then-is_near c =
    let x = c.args.x in
    let y : Slot = row_slot c.args.row.now in
    let d : bit_xor x.page y.page < get_or (spans_of (page_size (size_code x))) (size_code y) 0 =
    rw (← c.requires.2) (ltb-true _ _ (sym c.is_near.ensures ∙ c.if-is_near.true)) in
    let live = c.requires.0 in
    c.is_compared.ensures ∙ sym (by-test (eqb y.owner x.owner)
    (λ o. by-test (eqb (y.word / 2 ^ 63) 1)
    (λ e. over-near x y live.0 (eqb-true _ 1 e) (eqb-true _ _ o) (live-parts x live.1 live.0).start (live-parts y c.requires.1 e).start d ∙ sym (rw (o, e)))
    (λ e. over-empty x y (eqb-false _ 1 e) ∙ sym (rw (o, e))))
    (λ o. over-owner x y (eqb-false _ _ o) ∙ sym (rw o)))

pub returns-else-is_near : goal.returns-else-is_near
returns-else-is_near c =
    c.if-is_near.false
    ∙ sym (over-far c.args.x (row_slot c.args.row.now) (rw (← c.requires.2) (ltb-false _ _ (sym c.is_near.ensures ∙ c.if-is_near.false))))
