-- `access::bypass_translation` meets its contract.
use Prim.Native.Nat.{ℕ, ◌+◌, ◌<◌}
use mathlib.Core.Path.{◌≡◌}
use mathlib.Core.Bool.{cond}
use native.Mathlib.Omega.{arith}
use lib.Dec.{eqb}
use borrow.Author.Tests.{eqb-true, eqb-false}
use Rattle.laws.proofs.Bools.{by-test}
use Rattle.machine.specs.Words.{bits}
use Rattle.access.proofs.bypass_translation.Goals as goal

counts_up : (b : ℕ) → b < 2 → 1 + b ≡ cond (eqb b 0) 1 2
counts_up b h = by-test (eqb b 0) (λ e. rw e (omega (arith, eqb-true b 0 e))) (λ e. rw e (omega (arith, eqb-false b 0 e)))

pub returns : goal.returns
returns c = rw (c.bypass.ensures, c.bit_of.ensures, counts_up (bits 39 1 c.args.used.0) (omega arith))
