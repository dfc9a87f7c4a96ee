-- `tlb_update::lowest` meets its contract. The invariant: the search from 0 finds what the search of the slots from i on finds.
use mathlib.Core.Bool.{Bool}
use mathlib.Core.Path.{◌≡◌, refl, sym, ap, ◌∙◌}
use native.Mathlib.Omega.{arith}
use Rattle.laws.proofs.Walks.{first-hit, first-pass, first-end}
use Rattle.machine.specs.declared.Slot.{Slot}
use Rattle.machine.specs.declared.Wanted.{Wanted}
use Rattle.machine.specs.Slots.{slots_of, no_slot}
use Rattle.machine.specs.Insertion.{candidate, wants}
use Rattle.machine.proofs.Slots.{slots_length}
use Rattle.tlb_update.proofs.lowest.Goals as goal

-- what is asked of the slot's words is asked of the slot
asked : (wanted : Wanted) {x y : Slot} {r : Bool} → y ≡ x → r ≡ wants candidate wanted y → wants candidate wanted x ≡ r
asked wanted e r = ap (wants candidate wanted) (sym e) ∙ sym r

pub loop-i-init : goal.loop-i-init
loop-i-init c = (omega arith, refl)

pub loop-i-preserved : goal.loop-i-preserved
loop-i-preserved c =
    let l = c.args.slots.now in
    (omega arith, c.loop-i.invariant.1 ∙ first-pass no_slot (slots_of l) _ _ (omega (arith, slots_length l)) (asked _ c.slot_at-x.ensures c.wanted_slot.ensures ∙ c.if-wanted_slot.false))

pub returns-then-i-n : goal.returns-then-i-n
returns-then-i-n c =
    let l = c.args.slots.now in
    sym (c.loop-i.invariant.1 ∙ first-end no_slot (slots_of l) _ _ (omega (arith, slots_length l)))

pub returns-then-wanted_slot : goal.returns-then-wanted_slot
returns-then-wanted_slot c =
    let l = c.args.slots.now in
    sym (c.loop-i.invariant.1 ∙ first-hit no_slot (slots_of l) _ _ (omega (arith, slots_length l)) (asked _ c.slot_at-x.ensures c.wanted_slot.ensures ∙ c.if-wanted_slot.true))
