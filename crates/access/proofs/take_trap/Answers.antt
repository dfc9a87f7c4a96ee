-- `access::take_trap` meets its contract.
use mathlib.Core.Path.{◌∙◌}
use Rattle.machine.specs.Access.{trap_registers}
use Rattle.machine.specs.State.{counts, State, state_in}
use Rattle.state.proofs.Parts.{sized-words}
use Rattle.access.proofs.Laws.{registers-back, trap-length}
use Rattle.access.proofs.take_trap.Goals as goal

pub returns : goal.returns
returns c =
    let a = c.args.a in
    let u : State = state_in c.args.state.now in
    let z = sized-words counts c.args.state.now c.told-state in
    let l = trap-length u.registers a c.args.trap c.args.tag ∙ z.registers in
    let back = registers-back u z (trap_registers u.registers a c.args.trap c.args.tag) l c.write_trap.ensures in
    record { words = c.write_trap.ensures; answer = rw (c.tag_of.ensures, back) }
