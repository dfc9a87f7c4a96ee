-- `miss_handler::table_used` meets its contract: whether the context is zero picks the table.
use mathlib.Core.Path.{◌≡◌}
use mathlib.Core.Bool.{true, false}
use borrow.Author.Tests.{eq-eqb, ne_eqb}
use Rattle.machine.specs.State.{state_in}
use Rattle.machine.specs.Serve.{is_zero_context}
use Rattle.miss_handler.proofs.table_used.Goals as goal

pub returns-then-miss_context-eq0 : goal.returns-then-miss_context-eq0
returns-then-miss_context-eq0 c =
    let a = c.args in
    let zero : is_zero_context (state_in a.state.now).registers a.strand a.side ≡ true =
    rw c.miss_context.ensures at (eq-eqb _ _ c.if-miss_context-eq0.true) in
    rw zero

pub returns : goal.returns
returns c =
    let a = c.args in
    let other : is_zero_context (state_in a.state.now).registers a.strand a.side ≡ false =
    rw c.miss_context.ensures at (ne_eqb _ _ c.if-miss_context-eq0.false) in
    rw other
