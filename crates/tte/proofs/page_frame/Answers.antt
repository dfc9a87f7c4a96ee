-- `tte::page_frame` meets its contract: the address keeps its place, so no bit of it is shifted out.
use Prim.Native.Nat.{ℕ, ◌*◌, ◌%◌, ◌^◌}
use mathlib.Core.Path.{◌≡◌}
use native.Mathlib.Omega.{arith}
use Rattle.machine.specs.Words.{bits, frame}
use Rattle.tte.proofs.page_frame.Goals as goal

pub returns : goal.returns
unfolding frame
returns c =
    let a : ℕ = bits 13 43 c.args.word * 2 ^ 13 in
    let kept : a % 2 ^ 64 ≡ a = omega arith in
    rw (c.page_start.ensures, c.size_code.ensures, c.bits.ensures, kept)
