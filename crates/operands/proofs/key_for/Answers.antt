-- `operands::key_for` meets its contract.
use Rattle.operands.proofs.key_for.Goals as goal

pub returns-then-real : goal.returns-then-real
returns-then-real c = rw (c.untranslate.ensures, c.if-real.true)

pub returns : goal.returns
returns c = rw c.if-real.false
