-- `access::aligned` meets its contract.
use Prim.Native.Nat.{ℕ, ◌*◌, ◌%◌, ◌^◌, ◌<◌}
use mathlib.Core.Path.{◌≡◌, ap, ◌∙◌}
use native.Mathlib.Omega.{arith}
use lib.Dec.{eqb, lit<}
use lib.Pow.{pow_pos, shl_exact}
use Rattle.access.proofs.aligned.Goals as goal

-- the bit does not leave the word
shifted : (size : ℕ) → size < 64 → 1 * 2 ^ size % 2 ^ 64 ≡ 2 ^ size
shifted size h = shl_exact 1 size 64 (lit< tt) (omega arith) ∙ omega arith

pub nonzero_rem-result : goal.nonzero_rem-result
nonzero_rem-result c = omega (arith, shifted c.args.size c.requires, pow_pos c.args.size)

pub returns : goal.returns
returns c = ap (λ (d : ℕ). eqb (c.args.used.0 % d) 0) (shifted c.args.size c.requires)
