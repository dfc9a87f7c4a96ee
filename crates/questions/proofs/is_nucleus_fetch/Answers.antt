-- `questions::is_nucleus_fetch` meets its contract.
use borrow.Author.Tests.{eq-eqb, ne_eqb}
use Rattle.questions.proofs.is_nucleus_fetch.Goals as goal

pub returns-then-selector-eq2 : goal.returns-then-selector-eq2
returns-then-selector-eq2 c = rw (eq-eqb _ _ c.if-kind-eq0.true, eq-eqb _ _ c.if-selector-eq2.true, c.read_register.ensures.read)

pub returns-else-selector-eq2 : goal.returns-else-selector-eq2
returns-else-selector-eq2 c = rw (eq-eqb _ _ c.if-kind-eq0.true, ne_eqb _ _ c.if-selector-eq2.false)

pub returns-else-kind-eq0 : goal.returns-else-kind-eq0
returns-else-kind-eq0 c = rw (ne_eqb _ _ c.if-kind-eq0.false)
