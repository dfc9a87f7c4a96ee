-- `state::slot_to_be_had` meets its contract.
use mathlib.Core.Path.{ap, ◌∙◌}
use Rattle.machine.specs.Insertion.{candidate, has_slot}
use Rattle.state.proofs.slot_to_be_had.Goals as goal

pub returns : goal.returns
returns c = c.has_slot.ensures ∙ ap (has_slot candidate _) c.side_of.ensures.slots
