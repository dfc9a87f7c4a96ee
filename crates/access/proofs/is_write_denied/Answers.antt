-- `access::is_write_denied` meets its contract.
use native.Mathlib.Omega.{arith}
use lib.Dec.{eqb}
use borrow.Author.Tests.{eq-eqb, ne_eqb, eqb-false}
use Rattle.laws.proofs.Bools.{by-test}
use Rattle.access.proofs.is_write_denied.Goals as goal

pub returns-in-2 : goal.returns-in-2
returns-in-2 c =
    let k = c.args.kind in
    by-test (eqb k 2)
    (λ e. rw (e, c.bit_of.ensures))
    (λ e. rw (e, eq-eqb k 3 (omega (arith, eqb-false k 2 e)), c.bit_of.ensures))

pub returns-in_default : goal.returns-in_default
returns-in_default c = rw (ne_eqb c.args.kind 2 (λ e. omega arith), ne_eqb c.args.kind 3 (λ e. omega arith))

pub returns-in_default-2 : goal.returns-in_default-2
returns-in_default-2 c = rw (ne_eqb c.args.kind 2 (λ e. omega arith), ne_eqb c.args.kind 3 (λ e. omega arith))
