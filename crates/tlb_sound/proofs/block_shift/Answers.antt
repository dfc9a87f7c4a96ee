-- `tlb_sound::block_shift` meets its contract, arm by arm.
use Rattle.std.proofs.Common.{arith, le-ltb, lt-ltb}
use Rattle.tlb_sound.specs.Buckets.{block_shift}
use Rattle.tlb_sound.proofs.block_shift.Goals as goal

pub returns-in-0 : goal.returns-in-0
unfolding block_shift
returns-in-0 c = rw c.in-0.is

pub returns-in-1-to-2 : goal.returns-in-1-to-2
unfolding block_shift
returns-in-1-to-2 c =
    let code = c.args.code in
    simp (le-ltb code 1 (omega arith), lt-ltb code 3 (omega arith))

pub returns-in-3-to-4 : goal.returns-in-3-to-4
unfolding block_shift
returns-in-3-to-4 c =
    let code = c.args.code in
    simp (le-ltb code 1 (omega arith), le-ltb code 3 (omega arith), lt-ltb code 5 (omega arith))

pub returns-in_default : goal.returns-in_default
unfolding block_shift
returns-in_default c =
    let code = c.args.code in
    simp (le-ltb code 1 (omega arith), le-ltb code 3 (omega arith), le-ltb code 5 (omega arith))
