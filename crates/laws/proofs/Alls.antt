-- Tests of all elements and of every pair, under a read, a map and a store. Over any type. Assumes nothing.
use Prim.Native.Nat.{ℕ, zero, suc, ◌<◌}
use mathlib.Core.Path.{◌≡◌, refl, ap, sym, ◌∙◌}
use mathlib.Core.List.{List, [], ◌∷◌, map}
use mathlib.Core.Bool.{Bool, true, false, not, ◌&&◌}
use native.Mathlib.Omega.{arith}
use lib.ListN.{get_or, set}
use borrow.Author.Tests.{not-true}
use Rattle.laws.specs.Tests.{any_of, all_of, pairwise}
use Rattle.laws.proofs.Bools.{by-test, clash, and_both, and_left, and_right}

-- a test that implies another is denied where the other is
deny : {a b : Bool} → (b ≡ true → a ≡ true) → not a ≡ true → not b ≡ true
deny {a} {b} k h = by-test b (λ e. clash (k e) (not-true a h)) (λ e. rw e)

module _ {A : Type 0} where
  none-all : (p : A → Bool) (s : List A) → not (any_of p s) ≡ all_of (λ x. not (p x)) s
  unfolding any_of all_of
  none-all p [] = refl
  none-all p (x ∷ r) = by-test (p x) (λ e. rw e) (λ e. rw e (none-all p r))

  -- what two tests imply
  pub all_both : (p q t : A → Bool) (s : List A) → ((x : A) → p x ≡ true → q x ≡ true → t x ≡ true)
      → all_of p s ≡ true → all_of q s ≡ true → all_of t s ≡ true
  unfolding all_of
  all_both p q t [] k g h = refl
  all_both p q t (x ∷ r) k g h =
      and_both (t x) _ (k x (and_left (p x) _ g) (and_left (q x) _ h)) (all_both p q t r k (and_right (p x) _ g) (and_right (q x) _ h))

  -- the element at any index passes, past the end too where the default does
  pub all-get : (p : A → Bool) (d : A) (s : List A) (i : ℕ) → p d ≡ true → all_of p s ≡ true → p (get_or s i d) ≡ true
  unfolding all_of
  all-get p d [] i e h = e
  all-get p d (x ∷ r) zero e h = and_left (p x) _ h
  all-get p d (x ∷ r) (suc i) e h = all-get p d r i e (and_right (p x) _ h)

  pub all_map : (p q : A → Bool) (g : A → A) (s : List A) → ((x : A) → p x ≡ true → q (g x) ≡ true)
      → all_of p s ≡ true → all_of q (map g s) ≡ true
  unfolding all_of
  all_map p q g [] k h = refl
  all_map p q g (x ∷ r) k h = and_both (q (g x)) _ (k x (and_left (p x) _ h)) (all_map p q g r k (and_right (p x) _ h))

  pub all_set : (p : A → Bool) (s : List A) (i : ℕ) (x : A) → p x ≡ true → all_of p s ≡ true → all_of p (set s i x) ≡ true
  unfolding all_of
  all_set p [] i x e h = refl
  all_set p (y ∷ r) zero x e h = and_both (p x) _ e (and_right (p y) _ h)
  all_set p (y ∷ r) (suc i) x e h = and_both (p y) _ (and_left (p y) _ h) (all_set p r i x e (and_right (p y) _ h))

  module _ (f : A → A → Bool) where
    -- two elements do not clash
    abbrev pub clear : A → A → Bool
    clear x y = not (f x y)

    pub pair-cons : (x : A) (r : List A) → pairwise f (x ∷ r) ≡ (all_of (clear x) r && pairwise f r)
    unfolding pairwise
    pair-cons x r = rw (none-all (f x) r)

    -- kept by a map that makes no new clash
    pub pair-map : (g : A → A) (s : List A) → ((x y : A) → f (g x) (g y) ≡ true → f x y ≡ true)
        → pairwise f s ≡ true → pairwise f (map g s) ≡ true
    unfolding pairwise
    pair-map g [] k h = refl
    pair-map g (x ∷ r) k h =
        let e : (all_of (clear x) r && pairwise f r) ≡ true = sym (pair-cons x r) ∙ h in
        pair-cons (g x) (map g r)
        ∙ and_both _ _ (all_map (clear x) (clear (g x)) g r (λ y. deny (k x y)) (and_left _ _ e)) (pair-map g r k (and_right (all_of (clear x) r) _ e))

    -- kept by a store of x, where x clashes only with what the element there before clashed with. The default clashes with none
    pub pair_set : (d x : A) (p : A → Bool) (s : List A) (i : ℕ)
        → ((y z : A) → f y z ≡ f z y) → ((y : A) → f y d ≡ false) → ((y : A) → p y ≡ true → f x y ≡ true → f (get_or s i d) y ≡ true)
        → all_of p s ≡ true → pairwise f s ≡ true → pairwise f (set s i x) ≡ true
    unfolding pairwise all_of
    pair_set d x p [] i c n k g h = refl
    pair_set d x p (y ∷ r) zero c n k g h =
        let e : (all_of (clear y) r && pairwise f r) ≡ true = sym (pair-cons y r) ∙ h in
        pair-cons x r
        ∙ and_both _ _ (all_both p (clear y) (clear x) r (λ z t. deny (k z t)) (and_right (p y) _ g) (and_left _ _ e)) (and_right (all_of (clear y) r) _ e)
    pair_set d x p (y ∷ r) (suc i) c n k g h =
        let e : (all_of (clear y) r && pairwise f r) ≡ true = sym (pair-cons y r) ∙ h in
        let before : all_of (clear y) r ≡ true = and_left _ _ e in
        let there : not (f y (get_or r i d)) ≡ true = all-get (clear y) d r i (ap not (n y)) before in
        let here : not (f y x) ≡ true = deny (λ t. c y (get_or r i d) ∙ k y (and_left (p y) _ g) (c x y ∙ t)) there in
        pair-cons y (set r i x)
        ∙ and_both _ _ (all_set (clear y) r i x here before) (pair_set d x p r i c n k (and_right (p y) _ g) (and_right (all_of (clear y) r) _ e))

    -- no two elements clash. The default clashes with none
    pub pair-get : (d : A) → ((y : A) → f y d ≡ false) → (s : List A) (i j : ℕ) → i < j → pairwise f s ≡ true → f (get_or s i d) (get_or s j d) ≡ false
    pair-get d z [] i j l h = z d
    pair-get d z (x ∷ r) i zero l h = absurd (omega arith)
    pair-get d z (x ∷ r) zero (suc j) l h =
        let e : (all_of (clear x) r && pairwise f r) ≡ true = sym (pair-cons x r) ∙ h in
        not-true _ (all-get (clear x) d r j (ap not (z x)) (and_left _ _ e))
    pair-get d z (x ∷ r) (suc i) (suc j) l h =
        let e : (all_of (clear x) r && pairwise f r) ≡ true = sym (pair-cons x r) ∙ h in
        pair-get d z r i j (omega arith) (and_right (all_of (clear x) r) _ e)
