-- `tlb_update::remove_at` meets its contract.
use mathlib.Core.Bool.{Bool}
use mathlib.Core.Path.{◌≡◌, refl, ap, sym, ◌∙◌}
use Rattle.machine.specs.declared.Slot.{Slot}
use Rattle.machine.specs.declared.Removal.{Removal}
use Rattle.machine.specs.Insertion.{removes}
use Rattle.machine.proofs.Slots.{same-slot}
use Rattle.tlb_update.proofs.remove_at.Goals as goal

-- what is asked of the slot's words is asked of the slot
taken : (which : Removal) {x y : Slot} {r : Bool} → y ≡ x → r ≡ removes which y → removes which x ≡ r
taken which e r = ap (removes which) (sym e) ∙ sym r

pub returns : goal.returns
returns c =
    rw (taken c.args.which c.slot_at-x.ensures c.takes.ensures ∙ c.if-takes.false)
    (record { words = same-slot c.args.slots.now c.args.i c.requires; count = refl })
