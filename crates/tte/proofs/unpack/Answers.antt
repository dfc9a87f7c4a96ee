-- `tte::unpack` meets its contract: the fields are those of the definition, and packing undoes them.
use native.Mathlib.Omega.{arith}
use Rattle.machine.specs.Words.{unpacked}
use Rattle.machine.proofs.Words.{pack-unpack}
use Rattle.tte.proofs.unpack.Goals as goal

-- `cc` takes the fields from the calls of `bits`
pub returns-clause-fields : goal.returns-clause-fields
unfolding unpacked
returns-clause-fields c = cc

pub returns-clause-again : goal.returns-clause-again
returns-clause-again c = rw (returns-clause-fields c) (pack-unpack c.args.word (omega arith))
