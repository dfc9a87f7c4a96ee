-- `tlb::overlap` meets its contract, test by test.
use mathlib.Core.Path.{◌≡◌, sym, ◌∙◌}
use mathlib.Core.Bool.{true, ◌||◌}
use borrow.Author.Tests.{eq-eqb, ne_eqb}
use Rattle.machine.specs.Slots.{is_live, holds}
use Rattle.machine.specs.declared.Slot.{Slot}
use Rattle.machine.specs.Insertion.{overlaps}
use Rattle.tlb.proofs.overlap.Goals as goal

-- of two live entries of one owner the pages decide
pages : (x y : Slot) → is_live x ≡ true → is_live y ≡ true → x.owner ≡ y.owner → overlaps x y ≡ (holds x y.page || holds y x.page)
unfolding overlaps
pages x y p q e = rw (p, q, eq-eqb _ _ e)

pub returns-then-holds : goal.returns-then-holds
returns-then-holds c =
    rw (
      pages c.args.x c.args.y (sym c.is_live.ensures ∙ c.if-is_live.true) (sym c.is_live-then-is_live.ensures ∙ c.if-is_live-2.true) c.if-x-y.true,
      sym c.holds.ensures ∙ c.if-holds.true,
    ) c.if-holds.true

pub returns-else-holds : goal.returns-else-holds
returns-else-holds c =
    rw (
      pages c.args.x c.args.y (sym c.is_live.ensures ∙ c.if-is_live.true) (sym c.is_live-then-is_live.ensures ∙ c.if-is_live-2.true) c.if-x-y.true,
      sym c.holds.ensures ∙ c.if-holds.false,
    ) c.holds-else-holds.ensures

pub returns-else-x-y : goal.returns-else-x-y
unfolding overlaps
returns-else-x-y c = rw (sym c.is_live.ensures ∙ c.if-is_live.true, sym c.is_live-then-is_live.ensures ∙ c.if-is_live-2.true, ne_eqb _ _ c.if-x-y.false)

pub returns-else-is_live-2 : goal.returns-else-is_live-2
unfolding overlaps
returns-else-is_live-2 c = rw (sym c.is_live.ensures ∙ c.if-is_live.true, sym c.is_live-then-is_live.ensures ∙ c.if-is_live-2.false) c.if-is_live-2.false

pub returns-else-is_live : goal.returns-else-is_live
unfolding overlaps
returns-else-is_live c = rw (sym c.is_live.ensures ∙ c.if-is_live.false) c.if-is_live.false
