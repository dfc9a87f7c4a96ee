-- `tte::physical_address` meets its contract: the frame is rounded down from an address of 56 bits.
use Prim.Native.Nat.{ℕ, ◌*◌, ◌%◌, ◌^◌, ◌<◌}
use native.Mathlib.Omega.{arith}
use lib.Pow.{split}
use Rattle.machine.specs.Pages.{page_shift}
use Rattle.machine.specs.Words.{bits, frame, physical_by}
use Rattle.tte.proofs.physical_address.Goals as goal

frame_below : (word : ℕ) → (frame word).0 < 2 ^ 56
unfolding frame
frame_below word = omega (arith, split (bits 13 43 word * 2 ^ 13) (page_shift (word % 2 ^ 4)))

pub overflow_add-result : goal.overflow_add-result
overflow_add-result c = rw c.page_frame-start.ensures (omega (arith, frame_below c.args.word, c.requires))

pub returns : goal.returns
unfolding physical_by
returns c = rw c.page_frame-start.ensures
