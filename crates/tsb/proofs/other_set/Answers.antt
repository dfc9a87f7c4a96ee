-- `tsb::other_set` meets its contract.
use borrow.Author.Tests.{eq-eqb, ne_eqb}
use native.Mathlib.Omega.{arith}
use mathlib.Core.Path.{refl}
use Rattle.tsb.proofs.other_set.Goals as goal

pub returns-then-context-eq0 : goal.returns-then-context-eq0
returns-then-context-eq0 c = rw (eq-eqb _ _ c.if-context-eq0.true) (refl, omega arith)

pub returns : goal.returns
returns c = rw (ne_eqb _ _ c.if-context-eq0.false) (refl, omega arith)
