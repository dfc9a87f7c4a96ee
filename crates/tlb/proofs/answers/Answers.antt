-- `tlb::answers` meets its contract: the owner word, which most slots fail, the page, then bit 63; the order is nothing to a test.
use mathlib.Core.Path.{◌≡◌, ap, sym, ◌∙◌}
use mathlib.Core.Bool.{Bool, true, ◌&&◌, and_assoc, and_comm}
use lib.Dec.{eqb}
use borrow.Author.Tests.{eq-eqb, ne_eqb}
use Rattle.machine.specs.Slots.{is_live, key_owner, key_address, KeyFits, holds, is_compared, answers_to}
use Rattle.machine.specs.Sound.{slot_sound}
use Rattle.machine.specs.declared.Key.{Key}
use Rattle.machine.specs.declared.Slot.{Slot}
use Rattle.machine.proofs.Sound.{owner-agrees}
use Rattle.tlb.proofs.answers.Goals as goal

by-owner : (key : Key) (x : Slot) → KeyFits key → slot_sound x ≡ true
    → answers_to key x ≡ (eqb x.owner (key_owner key) && (holds x (key_address key) && is_live x))
unfolding answers_to is_compared
by-owner key x f h =
    rw (← (owner-agrees key x f h))
    (and_assoc (eqb x.owner (key_owner key)) (is_live x) _ ∙ ap (λ (b : Bool). eqb x.owner (key_owner key) && b) (and_comm (is_live x) _))

pub returns-then-holds : goal.returns-then-holds
returns-then-holds c =
    rw (by-owner c.args.key c.args.x c.requires.1 c.requires.0, ← c.key_owner.ensures, eq-eqb _ _ c.if-x-key_owner.true)
    (rw (← c.key_address.ensures, sym c.holds.ensures ∙ c.if-holds.true, c.is_live.ensures))

pub returns-else-holds : goal.returns-else-holds
returns-else-holds c =
    rw (by-owner c.args.key c.args.x c.requires.1 c.requires.0, ← c.key_owner.ensures, eq-eqb _ _ c.if-x-key_owner.true)
    (rw (← c.key_address.ensures, sym c.holds.ensures ∙ c.if-holds.false) c.if-holds.false)

pub returns-else-x-key_owner : goal.returns-else-x-key_owner
returns-else-x-key_owner c = rw (by-owner c.args.key c.args.x c.requires.1 c.requires.0, ← c.key_owner.ensures, ne_eqb _ _ c.if-x-key_owner.false)
