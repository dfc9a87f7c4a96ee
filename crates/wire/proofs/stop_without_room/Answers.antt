-- `wire::stop_without_room` meets its contract: by the width of the byte there.
-- Assumes nothing.
use mathlib.Core.Path.{sym, ap}
use native.Mathlib.Omega.{arith}
use borrow.Author.Tests.{ne_eqb, lt-ltb, le-ltb}
use Rattle.wire.specs.Wire.{full_stop_of}
use Rattle.wire.proofs.Decodes.{decode-past, decode-told}
use Rattle.wire.proofs.stop_without_room.Goals as goal

pub returns-then-at-input : goal.returns-then-at-input
returns-then-at-input c = ap full_stop_of (sym (decode-past _ _ (omega (arith, c.if-at-input.true))))

pub returns-then-width-eq0 : goal.returns-then-width-eq0
returns-then-width-eq0 c = rw (decode-told _ _ _ c.command_width-width.ensures, c.if-width-eq0.true)

pub returns-then-input-at : goal.returns-then-input-at
returns-then-input-at c = rw (decode-told _ _ _ c.command_width-width.ensures, ne_eqb _ _ c.if-width-eq0.false, lt-ltb _ _ c.if-input-at.true)

pub returns : goal.returns
returns c = rw (decode-told _ _ _ c.command_width-width.ensures, ne_eqb _ _ c.if-width-eq0.false, le-ltb _ _ c.if-input-at.false)
