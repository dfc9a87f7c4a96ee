-- `operands::selected_context` meets its contract.
use mathlib.Core.Path.{◌∙◌}
use borrow.Author.Tests.{eq-eqb, ne_eqb}
use Rattle.operands.proofs.selected_context.Goals as goal

pub returns-then-selector-eq2 : goal.returns-then-selector-eq2
returns-then-selector-eq2 c = rw (eq-eqb _ _ c.if-selector-eq2.true)

pub returns-then-selector-eq1 : goal.returns-then-selector-eq1
returns-then-selector-eq1 c = c.read_register.ensures.read ∙ rw (ne_eqb _ _ c.if-selector-eq2.false, eq-eqb _ _ c.if-selector-eq1.true)

pub returns : goal.returns
returns c = c.read_register-2.ensures.read ∙ rw (ne_eqb _ _ c.if-selector-eq2.false, ne_eqb _ _ c.if-selector-eq1.false)
