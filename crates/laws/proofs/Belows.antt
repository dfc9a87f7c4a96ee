-- A test of every number below a bound. Over any test. Assumes nothing.
use Prim.Native.Nat.{ℕ, zero, suc, ◌<◌}
use mathlib.Core.Path.{◌≡◌, refl, ◌∙◌}
use mathlib.Core.Bool.{Bool, true}
use native.Mathlib.Omega.{arith}
use lib.Dec.{eqb}
use borrow.Author.Tests.{eqb-true, eqb-false}
use Rattle.laws.specs.Tests.{all_below}
use Rattle.laws.proofs.Bools.{by-test, and_both, and_left, and_right}

-- it passes at each of them
pub below_at : (p : ℕ → Bool) (n i : ℕ) → all_below p n ≡ true → i < n → p i ≡ true
unfolding all_below
below_at p zero i h k = absurd (omega arith)
below_at p (suc n) i h k = by-test (eqb i n)
    (λ e. rw (eqb-true i n e) (and_left (p n) _ h))
    (λ e. below_at p n i (and_right (p n) _ h) (omega (arith, eqb-false i n e)))

pub below_all : (p : ℕ → Bool) (n : ℕ) → ((i : ℕ) → i < n → p i ≡ true) → all_below p n ≡ true
unfolding all_below
below_all p zero h = refl
below_all p (suc n) h = and_both (p n) _ (h n (omega arith)) (below_all p n (λ i k. h i (omega arith)))

-- two tests that agree at each of them
pub below-same : (p q : ℕ → Bool) (n : ℕ) → ((i : ℕ) → i < n → p i ≡ q i) → all_below p n ≡ all_below q n
unfolding all_below
below-same p q zero h = refl
below-same p q (suc n) h = rw (h n (omega arith), below-same p q n (λ i k. h i (omega arith)))

-- kept by another test that passes at k and is the same elsewhere
pub below-change : (p q : ℕ → Bool) (n k : ℕ) → q k ≡ true → ((i : ℕ) → (i ≡ k → ⊥) → q i ≡ p i) → all_below p n ≡ true → all_below q n ≡ true
below-change p q n k e same h =
    below_all q n (λ i l. by-test (eqb i k)
    (λ t. rw (eqb-true i k t) e)
    (λ t. same i (eqb-false i k t) ∙ below_at p n i h l))
