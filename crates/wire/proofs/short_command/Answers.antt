-- `wire::short_command` meets its contract: arm by arm; no byte is left for the last.
-- Assumes nothing.
use Prim.Native.Nat.{◌≤◌}
use mathlib.Core.Path.{◌≡◌}
use native.Mathlib.Omega.{arith}
use lib.ListN.{length}
use Rattle.machine.specs.Stream.{Bytes, byte, width_of, command_at}
use Rattle.wire.specs.Wire.{Whole}
use Rattle.wire.proofs.Decodes.{reach, no_other}
use Rattle.wire.proofs.short_command.Goals as goal

-- how many bytes an arm has
there-1 : {s : Bytes} → byte s 0 ≡ 4 → Whole s → 4 ≤ length s
unfolding width_of
there-1 = reach

there-2 : {s : Bytes} → byte s 0 ≡ 5 → Whole s → 3 ≤ length s
unfolding width_of
there-2 = reach

there-3 : {s : Bytes} → byte s 0 ≡ 8 → Whole s → 3 ≤ length s
unfolding width_of
there-3 = reach

there-4 : {s : Bytes} → byte s 0 ≡ 9 → Whole s → 3 ≤ length s
unfolding width_of
there-4 = reach

there-5 : {s : Bytes} → byte s 0 ≡ 10 → Whole s → 3 ≤ length s
unfolding width_of
there-5 = reach

pub bounds-rest-2 : goal.bounds-rest-2
unfolding command_at
bounds-rest-2 c = omega (arith, there-1 c.in-4.is c.requires.0)

pub bounds-rest-3 : goal.bounds-rest-3
unfolding command_at
bounds-rest-3 c = omega (arith, there-1 c.in-4.is c.requires.0)

pub bounds-rest-2-in-5 : goal.bounds-rest-2-in-5
unfolding command_at
bounds-rest-2-in-5 c = omega (arith, there-2 c.in-5.is c.requires.0)

pub bounds-rest-2-in-8 : goal.bounds-rest-2-in-8
unfolding command_at
bounds-rest-2-in-8 c = omega (arith, there-3 c.in-8.is c.requires.0)

pub bounds-rest-2-in-9 : goal.bounds-rest-2-in-9
unfolding command_at
bounds-rest-2-in-9 c = omega (arith, there-4 c.in-9.is c.requires.0)

pub bounds-rest-2-in-10 : goal.bounds-rest-2-in-10
unfolding command_at
bounds-rest-2-in-10 c = omega (arith, there-5 c.in-10.is c.requires.0)

pub returns-in-4 : goal.returns-in-4
unfolding command_at
returns-in-4 c = rw c.in-4.is

pub returns-in-5 : goal.returns-in-5
unfolding command_at
returns-in-5 c = rw c.in-5.is

pub returns-in-8 : goal.returns-in-8
unfolding command_at
returns-in-8 c = rw c.in-8.is

pub returns-in-9 : goal.returns-in-9
unfolding command_at
returns-in-9 c = rw c.in-9.is

pub returns-in-10 : goal.returns-in-10
unfolding command_at
returns-in-10 c = rw c.in-10.is

pub returns-in-6 : goal.returns-in-6
unfolding command_at
returns-in-6 c = rw c.in-6.is

pub returns-in_default : goal.returns-in_default
returns-in_default c =
    let no = c.in_default.in_default-own.rest in
    let (whole, short) = c.requires in
    absurd (no_other _ no.0.0.0.0.0.1 no.0.0.0.0.1 no.0.0.0.1 no.0.0.1 no.0.1 no.1 whole.known short)
