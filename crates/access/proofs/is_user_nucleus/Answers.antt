-- `access::is_user_nucleus` meets its contract.
use borrow.Author.Tests.{eq-eqb, ne_eqb}
use Rattle.access.proofs.is_user_nucleus.Goals as goal

pub returns-then-kind-ne0 : goal.returns-then-kind-ne0
returns-then-kind-ne0 c = rw (eq-eqb _ _ c.if-mode-eq-USER.true, ne_eqb _ _ c.if-kind-ne0.true)

pub returns-else-kind-ne0 : goal.returns-else-kind-ne0
returns-else-kind-ne0 c = rw (eq-eqb _ _ c.if-mode-eq-USER.true, eq-eqb _ _ c.if-kind-ne0.false)

pub returns-else-mode-eq-USER : goal.returns-else-mode-eq-USER
returns-else-mode-eq-USER c = rw (ne_eqb _ _ c.if-mode-eq-USER.false)
