-- `access::exception_of` meets its contract.
use mathlib.Core.Path.{refl}
use borrow.Author.Tests.{eq-eqb, ne_eqb}
use Rattle.access.proofs.exception_of.Goals as goal

pub returns-then-kind-eq0 : goal.returns-then-kind-eq0
returns-then-kind-eq0 c =
    record {
      trap = rw (eq-eqb _ _ c.if-kind-eq0.true);
      fault = refl;
    }

pub returns : goal.returns
returns c =
    record {
      trap = rw (ne_eqb _ _ c.if-kind-eq0.false);
      fault = refl;
    }
