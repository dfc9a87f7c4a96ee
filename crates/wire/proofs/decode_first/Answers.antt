-- `wire::decode_first` meets its contract: by the width of its first byte.
-- Assumes nothing.
use native.Mathlib.Nat.{sub-zero}
use borrow.Author.Tests.{ne_eqb, lt-ltb, le-ltb}
use Rattle.machine.proofs.Runs.{two-or-none}
use Rattle.wire.proofs.Decodes.{decode-told}
use Rattle.wire.proofs.decode_first.Goals as goal

pub returns-then-width-eq0 : goal.returns-then-width-eq0
returns-then-width-eq0 c = rw (decode-told _ 0 _ c.command_width-width.ensures, c.if-width-eq0.true)

pub returns-then-rest-width : goal.returns-then-rest-width
returns-then-rest-width c = rw (decode-told _ 0 _ c.command_width-width.ensures, ne_eqb _ _ c.if-width-eq0.false, sub-zero, lt-ltb _ _ c.if-rest-width.true)

pub known_command-requires : goal.known_command-requires
known_command-requires c =
    let e = c.command_width-width.ensures in
    record { known = two-or-none _ (rw e at c.if-width-eq0.false); there = rw e at c.if-rest-width.false }

pub returns : goal.returns
returns c =
    rw (
      decode-told _ 0 _ c.command_width-width.ensures,
      ne_eqb _ _ c.if-width-eq0.false,
      sub-zero,
      le-ltb _ _ c.if-rest-width.false,
      c.known_command.ensures,
    )
