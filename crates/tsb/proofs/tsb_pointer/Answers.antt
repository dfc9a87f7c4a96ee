-- `tsb::tsb_pointer` meets its contract.
use Prim.Native.Nat.{ℕ, ◌+◌, ◌*◌, ◌/◌, ◌%◌, ◌^◌, ◌<◌}
use mathlib.Core.Path.{◌≡◌}
use native.Mathlib.Omega.{arith}
use native.Mathlib.Nat.{mod-eq_of_lt}
use lib.Pow.{split}
use Rattle.machine.specs.Tsb.{tsb_offset, tsb_pointer}
use Rattle.tsb.proofs.Sizes.{aligned_sum, offset-below}
use Rattle.tsb.proofs.tsb_pointer.Goals as goal

-- what is shifted back does not leave the word
kept : (base : ℕ) → base < 2 ^ 64 → base / 2 ^ (13 + base % 16) * 2 ^ (13 + base % 16) % 2 ^ 64 ≡ base / 2 ^ (13 + base % 16) * 2 ^ (13 + base % 16)
kept base h = mod-eq_of_lt (omega (arith, split base (13 + base % 16)))

pub overflow_add-result : goal.overflow_add-result
overflow_add-result c =
    let base = c.args.base in
    let code = c.args.code in
    let address = c.args.address in
    let f : base / 2 ^ (13 + base % 16) * 2 ^ (13 + base % 16) + tsb_offset (base % 16) code address < 2 ^ 64 =
    aligned_sum base (13 + base % 16) _ (omega arith) (omega arith) (offset-below (base % 16) code address) in
    omega (arith, kept c.args.base (omega arith), c.offset_in_tsb.ensures)

pub returns : goal.returns
unfolding tsb_pointer
returns c = rw (kept c.args.base (omega arith), c.offset_in_tsb.ensures)
