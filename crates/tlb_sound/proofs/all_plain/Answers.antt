-- `tlb_sound::all_plain` meets its contract: a test that fails decides.
use Rattle.std.proofs.Common.{◌≡◌, ◌/◌, ◌^◌, eqb, sym, arith, ne_eqb, eqb-true}
use borrow.Author.Tests.{eqb-false}
use Rattle.laws.proofs.Bools.{by-test}
use Rattle.tlb_sound.specs.Digests.{plain}
use Rattle.tlb_sound.proofs.Digests.{plain_of, not_plain}
use Rattle.tlb_sound.proofs.all_plain.Goals as goal

pub returns-then-d-eq0-2 : goal.returns-then-d-eq0-2
returns-then-d-eq0-2 c =
    let d = c.args.d in
    let by-live : eqb (d.common / 2 ^ 63) 1 ≡ plain d =
    by-test (eqb (d.common / 2 ^ 63) 1)
    (λ t. rw t (sym (plain_of d (record { code = c.if-d-eq0.true; real = c.if-d-eq0-2.true; live = omega (arith, eqb-true (d.common / 2 ^ 63) 1 t) }))))
    (λ t. rw t (sym (not_plain d (λ p. eqb-false (d.common / 2 ^ 63) 1 t (omega (arith, p.live)))))) in
    by-live

pub returns-else-d-eq0-2 : goal.returns-else-d-eq0-2
returns-else-d-eq0-2 c = rw (ne_eqb _ _ c.if-d-eq0-2.false) (sym (not_plain _ (λ p. c.if-d-eq0-2.false p.real)))

pub returns-else-d-eq0 : goal.returns-else-d-eq0
returns-else-d-eq0 c = rw (ne_eqb _ _ c.if-d-eq0.false) (sym (not_plain _ (λ p. c.if-d-eq0.false p.code)))
