-- `questions::size_fits` meets its contract.
use borrow.Author.Tests.{lt-ltb, le-ltb, eq-eqb, ne_eqb}
use Rattle.questions.proofs.size_fits.Goals as goal

pub returns-then-kind-ne0 : goal.returns-then-kind-ne0
returns-then-kind-ne0 c = rw (lt-ltb _ _ c.if-size-lt4.true, ne_eqb _ _ c.if-kind-ne0.true)

pub returns-else-kind-ne0 : goal.returns-else-kind-ne0
returns-else-kind-ne0 c = rw (lt-ltb _ _ c.if-size-lt4.true, eq-eqb _ _ c.if-kind-ne0.false)

pub returns-else-size-lt4 : goal.returns-else-size-lt4
returns-else-size-lt4 c = rw (le-ltb _ _ c.if-size-lt4.false)
