-- `miss_record::newest_sound` meets its contract.
use Prim.Native.Nat.{◌+◌, ◌-◌, ◌%◌}
use mathlib.Core.Path.{◌≡◌}
use native.Mathlib.Omega.{arith}
use borrow.Author.Tests.{le-ltb}
use Rattle.machine.specs.Record.{newest_bits}
use Rattle.miss_record.proofs.Clear.{zero-below, shift-low}
use Rattle.miss_record.proofs.newest_sound.Goals as goal

pub returns-then-seen-eq0 : goal.returns-then-seen-eq0
returns-then-seen-eq0 c = rw c.if-seen-eq0.true (zero-below c.args.newest)

pub returns : goal.returns
returns c =
    let a = c.args in
    let bits : newest_bits a.seen ≡ (a.seen - 1) % 64 + 1 = rw (le-ltb 1024 a.seen (omega arith)) (omega arith) in
    rw bits (shift-low a.newest ((a.seen - 1) % 64))
