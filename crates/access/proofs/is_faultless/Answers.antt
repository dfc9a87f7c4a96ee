-- `access::is_faultless` meets its contract: what is left of the test once a bit passed it.
use Prim.Native.Nat.{ℕ}
use mathlib.Core.Path.{◌≡◌, sym, ◌∙◌}
use mathlib.Core.Bool.{not, ◌&&◌}
use borrow.Author.Tests.{eq-eqb, ne_eqb}
use Rattle.machine.specs.Words.{bits}
use Rattle.access.specs.Faults.{is_set, faultless}
use Rattle.access.proofs.is_faultless.Goals as goal

left-1 : (w : ℕ) {b : ℕ} → b ≡ bits 62 1 w → (b ≡ 1 → ⊥) → faultless w ≡ (not (is_set w 11) && (not (is_set w 8) && is_set w 10))
left-1 w e n = rw (← e, ne_eqb _ _ n)

left-2 : (w : ℕ) {b : ℕ} → b ≡ bits 11 1 w → (b ≡ 1 → ⊥) → (not (is_set w 11) && (not (is_set w 8) && is_set w 10)) ≡ (not (is_set w 8) && is_set w 10)
left-2 w e n = rw (← e, ne_eqb _ _ n)

left-3 : (w : ℕ) {b : ℕ} → b ≡ bits 8 1 w → (b ≡ 1 → ⊥) → (not (is_set w 8) && is_set w 10) ≡ is_set w 10
left-3 w e n = rw (← e, ne_eqb _ _ n)

pub returns-then-bit_of-ne1-3 : goal.returns-then-bit_of-ne1-3
returns-then-bit_of-ne1-3 c =
    let w = c.args.word in
    let passed = left-1 w c.bit_of.ensures c.if-bit_of-ne1.true ∙ left-2 w c.bit_of-then-bit_of-ne1.ensures c.if-bit_of-ne1-2.true in
    rw c.bit_of-then-bit_of-ne1-3.ensures (sym (passed ∙ left-3 w c.bit_of-then-bit_of-ne1-2.ensures c.if-bit_of-ne1-3.true))

pub returns-else-bit_of-ne1-3 : goal.returns-else-bit_of-ne1-3
returns-else-bit_of-ne1-3 c =
    let w = c.args.word in
    let passed = left-1 w c.bit_of.ensures c.if-bit_of-ne1.true ∙ left-2 w c.bit_of-then-bit_of-ne1.ensures c.if-bit_of-ne1-2.true in
    sym (passed ∙ rw (← c.bit_of-then-bit_of-ne1-2.ensures, eq-eqb _ _ c.if-bit_of-ne1-3.false))

pub returns-else-bit_of-ne1-2 : goal.returns-else-bit_of-ne1-2
returns-else-bit_of-ne1-2 c =
    sym (left-1 c.args.word c.bit_of.ensures c.if-bit_of-ne1.true ∙ rw (← c.bit_of-then-bit_of-ne1.ensures, eq-eqb _ _ c.if-bit_of-ne1-2.false))

pub returns-else-bit_of-ne1 : goal.returns-else-bit_of-ne1
returns-else-bit_of-ne1 c = rw (← c.bit_of.ensures, eq-eqb _ _ c.if-bit_of-ne1.false)
