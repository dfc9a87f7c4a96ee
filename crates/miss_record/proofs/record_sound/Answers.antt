-- `miss_record::record_sound` meets its contract.
use Prim.Native.Nat.{◌+◌, ◌*◌}
use mathlib.Core.Bool.{◌&&◌, ◌||◌}
use mathlib.Core.Path.{◌≡◌, sym, ◌∙◌}
use native.Mathlib.Omega.{arith}
use lib.Dec.{eqb, ltb}
use lib.ListN.{get_or}
use Rattle.laws.specs.Tests.{all_below}
use Rattle.machine.specs.Record.{record_sound}
use Rattle.miss_record.proofs.Clear.{record-long, record-short}
use Rattle.miss_record.proofs.record_sound.Goals as goal

pub returns-then-seen-gt1024 : goal.returns-then-seen-gt1024
returns-then-seen-gt1024 c =
    let a = c.args in
    sym (record-long a.seen a.older.now c.fits-older a.newest c.if-seen-gt1024.true (omega arith))

pub returns-then-newest_sound : goal.returns-then-newest_sound
returns-then-newest_sound c =
    let a = c.args in
    -- of at most 1,024 lookups it is what the two calls say
    let short : record_sound a.seen a.newest a.older.now
    ≡ (c.newest_sound.result && all_below (λ j. ltb (64 * (j + 1)) a.seen || eqb (get_or a.older.now j 0) 0) 15) =
    record-short a.seen a.older.now c.fits-older a.newest (omega arith) ∙ rw c.newest_sound.ensures in
    c.older_sound.ensures ∙ sym (short ∙ rw c.if-newest_sound.true)

pub returns-else-newest_sound : goal.returns-else-newest_sound
returns-else-newest_sound c =
    let a = c.args in
    -- of at most 1,024 lookups it is what the two calls say
    let short : record_sound a.seen a.newest a.older.now
    ≡ (c.newest_sound.result && all_below (λ j. ltb (64 * (j + 1)) a.seen || eqb (get_or a.older.now j 0) 0) 15) =
    record-short a.seen a.older.now c.fits-older a.newest (omega arith) ∙ rw c.newest_sound.ensures in
    c.if-newest_sound.false ∙ sym (short ∙ rw c.if-newest_sound.false)
