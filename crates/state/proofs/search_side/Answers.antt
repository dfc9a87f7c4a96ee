-- `state::search_side` meets its contract: the sides of a sound state are sound.
use mathlib.Core.Path.{ap, ◌∙◌}
use Rattle.machine.specs.Slots.{searched}
use Rattle.machine.specs.State.{counts, state_in}
use Rattle.machine.proofs.State.{sound-side}
use Rattle.state.proofs.search_side.Goals as goal

pub search-requires : goal.search-requires
search-requires c =
    (rw c.side_of.ensures.slots (sound-side counts (state_in c.args.state.now) c.requires.0 c.args.side).1, c.requires.1)

pub returns : goal.returns
returns c = c.search.ensures ∙ ap (searched _) c.side_of.ensures.slots
