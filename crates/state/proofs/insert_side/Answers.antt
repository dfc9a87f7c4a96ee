-- `state::insert_side` meets its contract.
use mathlib.Core.Path.{ap, ◌∙◌}
use Rattle.machine.specs.Insertion.{candidate, inserted, placed}
use Rattle.state.proofs.Lent.{lent-side}
use Rattle.state.proofs.insert_side.Goals as goal

pub returns : goal.returns
returns c =
    let part = lent-side _ c.told-state c.side_start-start.ensures.small c.side_start-start.ensures.start in
    let new = c.args.new in record {
      words = part.back (inserted candidate new) c.insert.ensures.words;
      placed = c.insert.ensures.placed ∙ ap (placed candidate new) part.slots;
    }
