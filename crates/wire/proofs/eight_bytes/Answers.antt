-- `wire::eight_bytes` meets its contract: the eight bytes are there, and `from_be_bytes` reads them.
-- Assumes nothing.
use mathlib.Core.Path.{◌∙◌}
use Rattle.wire.proofs.Decodes.{part-eight}
use Rattle.wire.proofs.eight_bytes.Goals as goal

pub returns : goal.returns
returns c =
    let eight = rw c.unwrap.ensures at c.as_array.ensures.cases in
    c.from_be_bytes.ensures ∙ part-eight _ _ _ eight.same
