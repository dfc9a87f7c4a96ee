-- `questions::selector_fits` meets its contract.
use borrow.Author.Tests.{lt-ltb, le-ltb, eq-eqb, ne_eqb}
use Rattle.questions.proofs.selector_fits.Goals as goal
use Rattle.questions.proofs.selector_fits.Goals.{then-side-eq0, else-side-eq0}

pub returns-after-side-eq0 : goal.returns-after-side-eq0
returns-after-side-eq0 c =
    rw (lt-ltb _ _ c.if-selector-lt3.true) (elim c.if-side-eq0.branch [
      | then-side-eq0 w ↦ rw (w.result-is, eq-eqb _ _ (rw c.number-side.ensures.value at w.if-side-eq0.true))
      | else-side-eq0 w ↦ rw (w.result-is, ne_eqb _ _ w.if-side-eq0.false, ne_eqb _ _ (rw c.number-side.ensures.value at w.if-side-eq0.false))
    ])

pub returns-else-selector-lt3 : goal.returns-else-selector-lt3
returns-else-selector-lt3 c = rw (le-ltb _ _ c.if-selector-lt3.false)
