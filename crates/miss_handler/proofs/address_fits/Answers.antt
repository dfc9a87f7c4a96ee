-- `miss_handler::address_fits` meets its contract.
use borrow.Author.Tests.{eq-eqb, ne_eqb}
use Rattle.miss_handler.proofs.address_fits.Goals as goal

pub returns-then-code-eq5 : goal.returns-then-code-eq5
returns-then-code-eq5 c = rw (eq-eqb _ _ c.if-code-eq5.true)

pub returns : goal.returns
returns c = rw (ne_eqb _ _ c.if-code-eq5.false)
