-- `access::write_trap` meets its contract.
use Rattle.std.proofs.Common.{None}
use Prim.Native.Nat.{ℕ, ◌+◌}
use mathlib.Core.List.{List}
use mathlib.Core.Path.{◌∙◌}
use Rattle.machine.specs.Access.{trap_registers}
use Rattle.machine.specs.State.{counts, State, state_in}
use Rattle.state.proofs.Parts.{sized-words}
use Rattle.access.proofs.Laws.{written-more, trap-length}
use Rattle.access.proofs.write_trap.Goals as goal

pub returns-in-Some : goal.returns-in-Some
unfolding trap_registers
returns-in-Some c =
    let a = c.args.a.now in
    let u : State = state_in c.args.state.now in
    let z = sized-words counts c.args.state.now c.told-state in
    let file : List ℕ = trap_registers u.registers a c.args.trap None in
    rw c.in-Some.is
    (written-more u z file (trap-length u.registers a c.args.trap None ∙ z.registers) c.write_fault.ensures a.strand (20 + a.side) _
    c.write_side.ensures)

pub returns-in_default : goal.returns-in_default
returns-in_default c = rw c.in_default.is c.write_fault.ensures
