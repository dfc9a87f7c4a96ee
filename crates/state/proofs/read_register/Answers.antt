-- `state::read_register` meets its contract.
use Rattle.machine.specs.State.{counts}
use Rattle.state.proofs.Parts.{register-read}
use Rattle.state.proofs.read_register.Goals as goal

pub returns : goal.returns
returns c =
    let small = c.cell-at.ensures.small in record {
      read = rw c.cell-at.ensures.cell (register-read counts _ _ _ small c.requires);
      small = small;
    }
