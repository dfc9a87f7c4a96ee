-- `state::remove_side` meets its contract.
use mathlib.Core.Path.{ap, ◌∙◌}
use Rattle.laws.specs.Tests.{count}
use Rattle.machine.specs.Insertion.{removed, removes}
use Rattle.state.proofs.Lent.{lent-side}
use Rattle.state.proofs.remove_side.Goals as goal

pub returns : goal.returns
returns c =
    let part = lent-side _ c.told-state c.side_start-start.ensures.small c.side_start-start.ensures.start in
    let which = removes c.args.which in record {
      words = part.back (removed which) c.remove.ensures.words;
      count = c.remove.ensures.count ∙ ap (count which) part.slots;
    }
