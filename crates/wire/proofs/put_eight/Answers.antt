-- `wire::put_eight` meets its contract: a value's bytes are put over eight.
-- Assumes nothing.
use mathlib.Core.Path.{◌∙◌}
use native.Mathlib.Omega.{arith}
use Rattle.machine.specs.Stream.{bytes}
use Rattle.wire.proofs.Answers.{part-sets}
use Rattle.wire.proofs.put_eight.Goals as goal

pub returns : goal.returns
returns c = part-sets _ (bytes c.args.v) _ _ _ (c.copy_from_slice.ensures.after ∙ c.to_be_bytes.ensures) (omega arith) (omega arith)
