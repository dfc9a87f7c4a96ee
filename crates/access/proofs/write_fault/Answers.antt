-- `access::write_fault` meets its contract.
use Prim.Native.Nat.{ℕ, ◌+◌}
use mathlib.Core.List.{List}
use mathlib.Core.Path.{◌∙◌}
use lib.ListN.{length-set}
use Rattle.machine.specs.Access.{trap_registers}
use Rattle.machine.specs.Registers.{with_register}
use Rattle.machine.specs.State.{counts, State, state_in}
use Rattle.state.proofs.Parts.{sized-words}
use Rattle.access.proofs.Laws.{written-more}
use Rattle.access.proofs.write_fault.Goals as goal

pub returns : goal.returns
unfolding trap_registers
returns c =
    let a = c.args.a.now in
    let u : State = state_in c.args.state.now in
    let z = sized-words counts c.args.state.now c.told-state in
    let file : List ℕ = with_register u.registers a.strand (22 + a.side) a.used.0 in
    rw (← c.trap_number.ensures, ← c.trap_fault.ensures)
    (written-more u z file (length-set u.registers _ _ ∙ z.registers) c.write_side.ensures a.strand (24 + a.side) _ c.write_side-2.ensures)
