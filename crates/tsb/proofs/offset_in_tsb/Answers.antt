-- `tsb::offset_in_tsb` meets its contract.
use Prim.Native.Nat.{◌+◌}
use native.Mathlib.Omega.{arith}
use lib.Pow.{pow_mono, pow_pos}
use Rattle.machine.specs.Tsb.{tsb_offset}
use Rattle.machine.proofs.Pages.{shift_small}
use Rattle.tsb.proofs.Sizes.{offset-below}
use Rattle.tsb.proofs.offset_in_tsb.Goals as goal

pub overflow_shr-page : goal.overflow_shr-page
overflow_shr-page c = rw c.page_shift.ensures (omega (arith, shift_small c.args.code))

pub nonzero_rem-result : goal.nonzero_rem-result
nonzero_rem-result c = rw c.tsb_entries.ensures (pow_pos _)

pub overflow_mul-result : goal.overflow_mul-result
unfolding tsb_offset
overflow_mul-result c =
    let n = c.args.n in
    rw (c.page_shift.ensures, c.tsb_entries.ensures) (omega (
      arith,
      offset-below n c.args.code c.args.address,
      pow_mono {i = 13 + n} {j = 64} (omega arith),
    ))

pub returns : goal.returns
unfolding tsb_offset
returns c = rw (c.page_shift.ensures, c.tsb_entries.ensures)
