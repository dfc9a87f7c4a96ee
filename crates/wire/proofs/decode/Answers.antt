-- `wire::decode` meets its contract: a command is read at the front of the rest, if there is one.
-- Assumes nothing.
use mathlib.Core.Path.{sym, ◌∙◌}
use native.Mathlib.Omega.{arith}
use lib.ListN.{length-drop}
use lib.Seq.{take-length}
use Rattle.wire.proofs.Decodes.{decode-past, decode-rest}
use Rattle.wire.proofs.decode.Goals as goal

pub returns-then-input-at : goal.returns-then-input-at
returns-then-input-at c = sym (decode-past _ _ (omega (arith, c.if-input-at.true)))

pub returns : goal.returns
returns c = c.decode_first.ensures ∙ rw (← length-drop, take-length) (decode-rest _ _)
