-- `state::slot_of` meets its contract.
use mathlib.Core.Path.{◌∙◌}
use Rattle.state.proofs.slot_of.Goals as goal

pub returns : goal.returns
returns c = c.slot_at.ensures ∙ rw c.side_of.ensures.slots
