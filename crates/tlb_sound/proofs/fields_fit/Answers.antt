-- `tlb_sound::fields_fit` meets its contract: a field that does not fit decides.
use Rattle.std.proofs.Common.{◌≡◌, ltb, sym, arith, ltb-false, ltb-true, le-ltb, ne_eqb}
use Rattle.laws.proofs.Bools.{by-test}
use Rattle.tlb_sound.specs.Digests.{fields_fit}
use Rattle.tlb_sound.proofs.Digests.{fit, unfit}
use Rattle.tlb_sound.proofs.fields_fit.Goals as goal

pub returns-else-d-lt131072 : goal.returns-else-d-lt131072
returns-else-d-lt131072 c = rw (le-ltb _ _ c.if-d-lt131072.false) (sym (unfit _ (λ f. absurd (omega (arith, f.owners)))))

pub returns-else-d-lt281474976710656 : goal.returns-else-d-lt281474976710656
returns-else-d-lt281474976710656 c = rw (le-ltb _ _ c.if-d-lt281474976710656.false) (sym (unfit _ (λ f. absurd (omega (arith, f.pages)))))

pub returns-else-d-eq0 : goal.returns-else-d-eq0
returns-else-d-eq0 c = rw (ne_eqb _ _ c.if-d-eq0.false) (sym (unfit _ (λ f. c.if-d-eq0.false f.starts)))

pub returns-else-d-eq0-2 : goal.returns-else-d-eq0-2
returns-else-d-eq0-2 c = rw (ne_eqb _ _ c.if-d-eq0-2.false) (sym (unfit _ (λ f. c.if-d-eq0-2.false f.words)))

pub returns-then-d-eq0-2 : goal.returns-then-d-eq0-2
returns-then-d-eq0-2 c =
    let d = c.args.d in
    let by_flags : ltb d.flags 4 ≡ fields_fit d =
    by-test (ltb d.flags 4)
    (λ t. rw t (sym (fit d (record {
      owners = omega (arith, c.if-d-lt131072.true);
      pages = omega (arith, c.if-d-lt281474976710656.true);
      starts = omega (arith, c.if-d-eq0.true);
      words = omega (arith, c.if-d-eq0-2.true);
      small = omega arith;
      flags = omega (arith, ltb-true d.flags 4 t);
    }))))
    (λ t. rw t (sym (unfit d (λ f. absurd (omega (arith, f.flags, ltb-false d.flags 4 t)))))) in
    by_flags
