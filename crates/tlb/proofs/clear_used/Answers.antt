-- `tlb::clear_used` meets its contract. The invariant: the first i slots have no used bit, the others are as they were.
use Prim.Native.Nat.{ℕ, ◌%◌}
use mathlib.Core.List.{List}
use mathlib.Core.Path.{◌≡◌, refl, ap, ◌∙◌}
use native.Mathlib.Omega.{arith}
use lib.ListN.{length}
use Rattle.machine.specs.Slots.{without_used, on_slot}
use Rattle.machine.proofs.Slots.{flags-on, replaced, replace-start, replace-turn, replace-end, replace-length}
use Rattle.tlb.proofs.clear_used.Goals as goal

-- the length stays
same : (l new : List ℕ) (i : ℕ) → length l % 4 ≡ 0 → new ≡ replaced without_used i l → length new ≡ length l
same l new i h e = ap length e ∙ replace-length without_used l i h

pub loop-i-init : goal.loop-i-init
loop-i-init c = replace-start without_used c.args.slots.now c.requires

pub loop-i-preserved : goal.loop-i-preserved
loop-i-preserved c =
    let l = c.args.slots.now in
    let i = c.loop-i.i in
    flags-on without_used c.loop-i.slots i _ (omega (arith, same _ _ _ c.requires c.loop-i.invariant)) refl
    ∙ ap (on_slot without_used i) c.loop-i.invariant
    ∙ replace-turn without_used l i (omega arith)

pub returns : goal.returns
returns c = c.loop-i.invariant ∙ replace-end without_used c.args.slots.now _ (omega arith)
