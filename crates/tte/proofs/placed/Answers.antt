-- `tte::placed` meets its contract: no bit of the field leaves the word.
use Prim.Native.Nat.{◌*◌, ◌%◌, ◌^◌}
use mathlib.Core.Path.{◌≡◌, ◌∙◌}
use native.Mathlib.Omega.{arith}
use native.Mathlib.Nat.{mod-lt}
use lib.Dec.{lit<}
use lib.Pow.{pow_pos, shl_exact}
use Rattle.tte.proofs.placed.Goals as goal

pub returns : goal.returns
returns c =
    let a = c.args in
    let mask : 1 * 2 ^ a.width % 2 ^ 64 ≡ 2 ^ a.width = shl_exact 1 a.width 64 (lit< tt) (omega arith) ∙ omega arith in
    rw mask (shl_exact a.width a.from 64 (mod-lt a.field (pow_pos a.width)) (omega arith))
