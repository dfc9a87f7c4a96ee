-- `tlb_update::has_slot` meets its contract: what is found decides, and an overlap where nothing is.
use Rattle.std.proofs.Common.{◌≡◌, refl, sym, ap, ◌∙◌, ℕ, Bool, true, List, Option, Some, None, is_some}
use mathlib.Core.Bool.{not-not, or_comm}
use Rattle.laws.specs.Tests.{any_of, first}
use Rattle.laws.proofs.Walks.{found-any, found_none}
use Rattle.machine.specs.Slots.{slots_of, no_slot}
use Rattle.machine.specs.Insertion.{is_empty, candidate, wants, has_slot}
use Rattle.machine.specs.declared.Slot.{Slot}
use Rattle.tlb_update.proofs.has_slot.Goals as goal

-- a search finds one where any passes
finds : (p : Slot → Bool) (s : List Slot) {b : Bool} {r : Option ℕ} → r ≡ first p s → b ≡ is_some r → any_of p s ≡ b
finds p s e f = go (first p s) refl ∙ sym (f ∙ ap is_some e)
  where
    go : (r : Option ℕ) → first p s ≡ r → any_of p s ≡ is_some (first p s)
    go (Some i) e = rw e (found-any no_slot p s i e)
    go None e = rw e (found_none no_slot p s e)

pub returns-then-is_some : goal.returns-then-is_some
unfolding has_slot wants
returns-then-is_some c =
    let s = slots_of c.args.slots.now in
    rw (c.if-is_some.true, finds candidate s c.lowest.ensures c.is_some.ensures ∙ c.if-is_some.true) (sym (or_comm (any_of is_empty s) true))

pub returns-then-is_some-2 : goal.returns-then-is_some-2
unfolding has_slot wants
returns-then-is_some-2 c =
    let s = slots_of c.args.slots.now in
    rw (c.if-is_some-2.true, finds is_empty s c.lowest-else-is_some.ensures c.is_some-else-is_some.ensures ∙ c.if-is_some-2.true)

pub returns-else-is_some-2 : goal.returns-else-is_some-2
unfolding has_slot wants
returns-else-is_some-2 c =
    let s = slots_of c.args.slots.now in
    rw (
      finds candidate s c.lowest.ensures c.is_some.ensures ∙ c.if-is_some.false,
      finds is_empty s c.lowest-else-is_some.ensures c.is_some-else-is_some.ensures ∙ c.if-is_some-2.false,
      c.overlaps_none.ensures,
      not-not,
    )
