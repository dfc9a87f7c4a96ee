-- `miss_handler::word_fits` meets its contract.
use borrow.Author.Tests.{eq-eqb, ne_eqb}
use Rattle.machine.specs.Serve.{word_fits}
use Rattle.miss_handler.proofs.word_fits.Goals as goal

pub returns-then-word-eq1 : goal.returns-then-word-eq1
unfolding word_fits
returns-then-word-eq1 c = rw (eq-eqb _ _ c.if-word-eq1.true)

pub returns-else-word-eq1 : goal.returns-else-word-eq1
unfolding word_fits
returns-else-word-eq1 c = rw (ne_eqb _ _ c.if-word-eq1.false)
