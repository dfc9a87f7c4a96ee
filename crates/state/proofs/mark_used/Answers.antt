-- `state::mark_used` meets its contract: a slot stored in the part is one stored in the side.
use mathlib.Core.Path.{◌∙◌}
use native.Mathlib.Omega.{arith}
use Rattle.machine.specs.Slots.{set_used}
use Rattle.machine.proofs.Slots.{store-slots}
use Rattle.state.proofs.Lent.{lent-side}
use Rattle.state.proofs.mark_used.Goals as goal

pub returns : goal.returns
returns c =
    let part = lent-side _ c.told-state c.side_start-start.ensures.small c.side_start-start.ensures.start in
    part.back (set_used c.args.i) (c.set_used.ensures ∙ store-slots _ _ _ (omega (arith, part.count)))
