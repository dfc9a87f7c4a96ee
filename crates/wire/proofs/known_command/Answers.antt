-- `wire::known_command` meets its contract: arm by arm.
-- Assumes nothing.
use Prim.Native.Nat.{◌≤◌}
use mathlib.Core.Path.{◌≡◌}
use native.Mathlib.Omega.{arith}
use borrow.Author.Rules.{rules}
use lib.ListN.{length}
use Rattle.machine.specs.Stream.{Bytes, byte, width_of, command_at}
use Rattle.wire.specs.Wire.{Whole}
use Rattle.wire.proofs.Decodes.{reach, short-width}
use Rattle.wire.proofs.known_command.Goals as goal

-- how many bytes an arm has
there-1 : {s : Bytes} → byte s 0 ≡ 1 → Whole s → 11 ≤ length s
unfolding width_of
there-1 = reach

there-2 : {s : Bytes} → byte s 0 ≡ 2 → Whole s → 12 ≤ length s
unfolding width_of
there-2 = reach

there-3 : {s : Bytes} → byte s 0 ≡ 3 → Whole s → 13 ≤ length s
unfolding width_of
there-3 = reach

there-4 : {s : Bytes} → byte s 0 ≡ 7 → Whole s → 13 ≤ length s
unfolding width_of
there-4 = reach

pub bounds-rest-2 : goal.bounds-rest-2
unfolding command_at
bounds-rest-2 c = omega (arith, there-1 c.in-1.is c.requires)

pub eight_bytes-requires : goal.eight_bytes-requires
unfolding command_at
eight_bytes-requires c = omega (arith, there-1 c.in-1.is c.requires)

pub bounds-rest-2-in-2 : goal.bounds-rest-2-in-2
unfolding command_at
bounds-rest-2-in-2 c = omega (arith, there-2 c.in-2.is c.requires)

pub bounds-rest-3 : goal.bounds-rest-3
unfolding command_at
bounds-rest-3 c = omega (arith, there-2 c.in-2.is c.requires)

pub eight_bytes-requires-in-2 : goal.eight_bytes-requires-in-2
unfolding command_at
eight_bytes-requires-in-2 c = omega (arith, there-2 c.in-2.is c.requires)

pub bounds-rest-2-in-3 : goal.bounds-rest-2-in-3
unfolding command_at
bounds-rest-2-in-3 c = omega (arith, there-3 c.in-3.is c.requires)

pub bounds-rest-3-in-3 : goal.bounds-rest-3-in-3
unfolding command_at
bounds-rest-3-in-3 c = omega (arith, there-3 c.in-3.is c.requires)

pub bounds-rest-4 : goal.bounds-rest-4
unfolding command_at
bounds-rest-4 c = omega (arith, there-3 c.in-3.is c.requires)

pub eight_bytes-requires-in-3 : goal.eight_bytes-requires-in-3
unfolding command_at
eight_bytes-requires-in-3 c = omega (arith, there-3 c.in-3.is c.requires)

pub bounds-rest-2-in-7 : goal.bounds-rest-2-in-7
unfolding command_at
bounds-rest-2-in-7 c = omega (arith, there-4 c.in-7.is c.requires)

pub bounds-rest-3-in-7 : goal.bounds-rest-3-in-7
unfolding command_at
bounds-rest-3-in-7 c = omega (arith, there-4 c.in-7.is c.requires)

pub bounds-rest-4-in-7 : goal.bounds-rest-4-in-7
unfolding command_at
bounds-rest-4-in-7 c = omega (arith, there-4 c.in-7.is c.requires)

pub eight_bytes-requires-in-7 : goal.eight_bytes-requires-in-7
unfolding command_at
eight_bytes-requires-in-7 c = omega (arith, there-4 c.in-7.is c.requires)

pub short_command-requires : goal.short_command-requires
unfolding command_at
short_command-requires c =
    let r = c.in_default.in_default-own.rest in (search rules, short-width _ r.0.0.0.1 r.0.0.1 r.0.1 r.1)

pub returns-in-1 : goal.returns-in-1
unfolding command_at
returns-in-1 c = rw (c.in-1.is, c.eight_bytes.ensures)

pub returns-in-2 : goal.returns-in-2
unfolding command_at
returns-in-2 c = rw (c.in-2.is, c.eight_bytes-in-2.ensures)

pub returns-in-3 : goal.returns-in-3
unfolding command_at
returns-in-3 c = rw (c.in-3.is, c.eight_bytes-in-3.ensures)

pub returns-in-7 : goal.returns-in-7
unfolding command_at
returns-in-7 c = rw (c.in-7.is, c.eight_bytes-in-7.ensures)
