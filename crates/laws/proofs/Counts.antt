-- Laws of counting: under append, removal, store and map; and of one element among many. Over any type and any test. Assumes nothing.
use mathlib.Core.Path.{◌≡◌, refl, ap}
use mathlib.Core.Bool.{Bool, true, false, not, ◌&&◌}
use mathlib.Core.List.{List, [], ◌∷◌, ◌++◌, map}
use Prim.Native.Nat.{ℕ, zero, suc, ◌+◌, ◌≤◌, ◌<◌}
use native.Mathlib.Nat.{le_of_suc-le-suc, not-suc-le-zero}
use native.Mathlib.Omega.{arith}
use lib.ListN.{length, get_or, set}
use borrow.Author.Tests.{not-true}
use Rattle.laws.specs.Tests.{tick, count, any_of, all_of, pairwise}
use Rattle.laws.specs.Passing.{passing}
use Rattle.laws.proofs.Bools.{by-test, clash, and_both, and_left, and_right, or_left, or_right}

pub tick-mono : (a b : Bool) → (a ≡ true → b ≡ true) → tick a ≤ tick b
tick-mono true true h = omega arith
tick-mono true false h = clash (h refl) refl
tick-mono false b h = omega arith

tick-split : (a b : Bool) → tick b ≡ tick (a && b) + tick (not a && b)
tick-split true true = refl
tick-split true false = refl
tick-split false true = refl
tick-split false false = refl

module _ {A : Type 0} where
  pub count-append : (p : A → Bool) (l m : List A) → count p (l ++ m) ≡ count p l + count p m
  unfolding count
  count-append p [] m = omega arith
  count-append p (x ∷ l) m = omega (arith, count-append p l m)

  -- of those that pass another test
  pub count-passing : (p q : A → Bool) (l : List A) → count p (passing q l) ≡ count (λ x. q x && p x) l
  unfolding count passing
  count-passing p q [] = refl
  count-passing p q (x ∷ l) = by-test (q x) (λ e. rw e (omega (arith, count-passing p q l))) (λ e. rw e (omega (arith, count-passing p q l)))

  -- after a store: the old element's share goes, the new one's comes
  pub count_set : (p : A → Bool) (l : List A) (i : ℕ) (x d : A) → i < length l → count p (set l i x) + tick (p (get_or l i d)) ≡ count p l + tick (p x)
  unfolding count
  count_set p [] i x d h = absurd (not-suc-le-zero h)
  count_set p (y ∷ l) zero x d h = omega arith
  count_set p (y ∷ l) (suc i) x d h = omega (arith, count_set p l i x d (le_of_suc-le-suc h))

  -- after a map, a test of the images is a test of the elements
  pub count_map : {B : Type 0} (p : B → Bool) (f : A → B) (l : List A) → count p (map f l) ≡ count (λ x. p (f x)) l
  unfolding count
  count_map p f [] = refl
  count_map p f (x ∷ l) = omega (arith, count_map p f l)

  pub count_same : (p q : A → Bool) (l : List A) → ((x : A) → p x ≡ q x) → count p l ≡ count q l
  unfolding count
  count_same p q [] h = refl
  count_same p q (x ∷ l) h = omega (arith, ap tick (h x), count_same p q l h)

  pub count-le : (p q : A → Bool) (l : List A) → ((x : A) → p x ≡ true → q x ≡ true) → count p l ≤ count q l
  unfolding count
  count-le p q [] h = omega arith
  count-le p q (x ∷ l) h = omega (arith, tick-mono (p x) (q x) (h x), count-le p q l h)

  pub count-split : (p q : A → Bool) (l : List A) → count p l ≡ count (λ x. q x && p x) l + count (λ x. not (q x) && p x) l
  unfolding count
  count-split p q [] = refl
  count-split p q (x ∷ l) = omega (arith, tick-split (q x) (p x), count-split p q l)

  pub count_none : (p : A → Bool) (l : List A) → ((x : A) → p x ≡ false) → count p l ≡ 0
  unfolding count
  count_none p [] h = refl
  count_none p (x ∷ l) h = rw (h x) (omega (arith, count_none p l h))

  pub count-all : (l : List A) → count (λ _. true) l ≡ length l
  unfolding count
  count-all [] = refl
  count-all (x ∷ l) = omega (arith, count-all l)

  -- every element passes one of a test and its denial
  pub count-rest : (p : A → Bool) (l : List A) → count p l + count (λ x. not (p x)) l ≡ length l
  unfolding count
  count-rest p [] = refl
  count-rest p (x ∷ l) = omega (arith, one (p x), count-rest p l)
    where
      one : (b : Bool) → tick b + tick (not b) ≡ 1
      one true = refl
      one false = refl

  -- an element that passes is counted
  pub count_at : (p : A → Bool) (l : List A) (i : ℕ) (d : A) → i < length l → p (get_or l i d) ≡ true → 1 ≤ count p l
  unfolding count
  count_at p [] i d h e = absurd (not-suc-le-zero h)
  count_at p (x ∷ l) zero d h e = rw e (omega arith)
  count_at p (x ∷ l) (suc i) d h e = omega (arith, count_at p l i d (le_of_suc-le-suc h) e)

  -- counts and tests of some and of all
  pub none-count : (p : A → Bool) (l : List A) → any_of p l ≡ false → count p l ≡ 0
  unfolding count any_of
  none-count p [] h = refl
  none-count p (x ∷ l) h = rw (or_left (p x) _ h) (omega (arith, none-count p l (or_right (p x) _ h)))

  pub count-any : (p : A → Bool) (l : List A) → count p l ≡ 0 → any_of p l ≡ false
  unfolding count any_of
  count-any p [] h = refl
  count-any p (x ∷ l) h = by-test (p x)
      (λ e. absurd (omega (arith, ap tick e)))
      (λ e. rw e (count-any p l (omega (arith, ap tick e))))

  pub count-all_of : (p : A → Bool) (l : List A) → count (λ x. not (p x)) l ≡ 0 → all_of p l ≡ true
  unfolding count all_of
  count-all_of p [] h = refl
  count-all_of p (x ∷ l) h = by-test (p x)
      (λ e. and_both (p x) _ e (count-all_of p l (omega (arith, ap tick (ap not e)))))
      (λ e. absurd (omega (arith, ap tick (ap not e))))

  -- where no element clashes with a later one, a test whose every two elements clash is passed at most once
  pub count-one : (clashes : A → A → Bool) (p : A → Bool) (l : List A) → ((x y : A) → p x ≡ true → p y ≡ true → clashes x y ≡ true)
      → pairwise clashes l ≡ true → count p l ≤ 1
  unfolding count pairwise
  count-one clashes p [] h f = omega arith
  count-one clashes p (x ∷ l) h f = by-test (p x)
      (λ e.
      let none : count (clashes x) l ≡ 0 = none-count (clashes x) l (not-true _ (and_left _ (pairwise clashes l) f)) in
      omega (arith, ap tick e, count-le p (clashes x) l (λ y t. h x y e t)))
      (λ e. omega (arith, ap tick e, count-one clashes p l h (and_right (not (any_of (clashes x) l)) _ f)))
