-- `state::write_register` meets its contract.
use Rattle.machine.specs.State.{counts}
use Rattle.state.proofs.Parts.{register-stored}
use Rattle.state.proofs.write_register.Goals as goal

pub returns : goal.returns
returns c = rw c.cell-at.ensures.cell (register-stored counts _ c.told-state _ _ _ c.cell-at.ensures.small c.requires)
