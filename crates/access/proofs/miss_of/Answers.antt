-- `access::miss_of` meets its contract.
use mathlib.Core.Path.{sym, ◌∙◌}
use native.Mathlib.Omega.{arith}
use borrow.Author.Tests.{eq-eqb, ne_eqb}
use Rattle.access.proofs.miss_of.Goals as goal

pub returns-then-a-eq0 : goal.returns-then-a-eq0
returns-then-a-eq0 c =
    record {
      trap = rw (sym c.translation_on.ensures.on ∙ c.if-translation_on.true, eq-eqb _ _ c.if-a-eq0.true);
      fits = omega arith;
    }

pub returns-then-translation_on : goal.returns-then-translation_on
returns-then-translation_on c =
    record {
      trap = rw (sym c.translation_on.ensures.on ∙ c.if-translation_on.true, ne_eqb _ _ c.if-a-eq0.false);
      fits = omega arith;
    }

pub returns-then-a-eq0-2 : goal.returns-then-a-eq0-2
returns-then-a-eq0-2 c =
    record {
      trap = rw (sym c.translation_on.ensures.on ∙ c.if-translation_on.false, eq-eqb _ _ c.if-a-eq0-2.true);
      fits = omega arith;
    }

pub returns : goal.returns
returns c =
    record {
      trap = rw (sym c.translation_on.ensures.on ∙ c.if-translation_on.false, ne_eqb _ _ c.if-a-eq0-2.false);
      fits = omega arith;
    }
