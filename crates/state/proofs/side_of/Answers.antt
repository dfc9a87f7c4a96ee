-- `state::side_of` meets its contract.
use Rattle.state.proofs.Lent.{lent-side}
use Rattle.state.proofs.side_of.Goals as goal

pub returns : goal.returns
returns c =
    let part = lent-side _ c.told-state c.side_start-start.ensures.small c.side_start-start.ensures.start in record {
      slots = part.slots;
      count = part.count;
    }
