-- Laws of `find` and of counts over elements that are known: what is found, what stands once, tests that agree on every element, and counts up to the first.
-- Over any type and any test. Assumes nothing.
use Rattle.std.proofs.Common.{Some, None, Option}
use mathlib.Core.Path.{◌≡◌, refl, ap, ◌∙◌}
use mathlib.Core.Bool.{Bool, true, false, not, ◌&&◌}
use mathlib.Core.List.{List, [], ◌∷◌}
use Prim.Native.Nat.{ℕ, zero, suc, ◌+◌, ◌≤◌, ◌<◌}
use native.Mathlib.Omega.{arith}
use lib.Dec.{eqb}
use lib.ListN.{length, get_or, take}
use borrow.Author.Tests.{eq-eqb, ne_eqb}
use Rattle.laws.specs.Tests.{tick, count, any_of, all_of, first_from, first, count_up_to}
use Rattle.laws.specs.Passing.{passing, how_many, none_passes, without, find}
use Rattle.laws.proofs.Bools.{by-test, clash, and_both, and_left, and_right}
use Rattle.laws.proofs.Counts.{count_at, count-le, count-split, count-any, none-count}

module _ {A : Type 0} where
  -- ---- what stands in a list
  abbrev pub Stands : A → List A → Type 0
  Stands x l = (i : ℕ) × (i < length l) × (get_or l i x ≡ x)

  stands-more : (x y : A) (l : List A) → Stands x l → Stands x (y ∷ l)
  stands-more x y l h = (suc h.0, omega (arith, h.1), h.2)

  -- every test that it passes counts it
  pub stands-count : (p : A → Bool) (l : List A) (x : A) → p x ≡ true → Stands x l → 1 ≤ count p l
  stands-count p l x e h = count_at p l h.0 x h.1 (rw h.2 e)

  -- where one is counted, one stands that passes
  pub count_index : (p : A → Bool) (l : List A) (d : A) → 1 ≤ count p l → (i : ℕ) × (i < length l) × (p (get_or l i d) ≡ true)
  unfolding count
  count_index p [] d h = absurd (omega arith)
  count_index p (x ∷ l) d h = by-test (p x)
      (λ e. (0, omega arith, e))
      (λ e.
      let r = count_index p l d (omega (arith, ap tick e)) in
      (suc r.0, omega (arith, r.1), r.2))

  -- ---- what `find` says
  abbrev pub FindSays : (A → Bool) → List A → Option A → Type 0
  FindSays p l None = count p l ≡ 0
  FindSays p l (Some x) = (p x ≡ true) × Stands x l

  pub find-says : (p : A → Bool) (l : List A) → FindSays p l (find p l)
  unfolding passing count
  find-says p [] = refl
  find-says p (y ∷ l) = by-test (p y)
      (λ e. rw e (e, (0, omega arith, refl)))
      (λ e. rw e (more e (find p l) (find-says p l)))
    where
      more : p y ≡ false → (o : Option A) → FindSays p l o → FindSays p (y ∷ l) o
      more e None h = rw e (omega arith)
      more e (Some x) h = (h.0, stands-more x y l h.1)

  pub find-zero : (p : A → Bool) (l : List A) → count p l ≡ 0 → find p l ≡ None
  find-zero p l h = go (find p l) (find-says p l)
    where
      go : (o : Option A) → FindSays p l o → o ≡ None
      go None f = refl
      go (Some x) f = absurd (omega (arith, stands-count p l x f.0 f.1))

  -- ---- a test passed at most once
  -- find does not see the order
  pub find-only : (p : A → Bool) (l : List A) (x : A) → p x ≡ true → Stands x l → count p l ≤ 1 → find p l ≡ Some x
  unfolding passing count
  find-only p [] x e (i, h, g) one = absurd (omega arith)
  find-only p (y ∷ l) x e (zero, h, g) one = rw (g, e)
  find-only p (y ∷ l) x e (suc i, h, g) one =
      let s : Stands x l = (i, omega arith, g) in
      by-test (p y)
      (λ t. absurd (omega (arith, ap tick t, stands-count p l x e s)))
      (λ t. rw t (find-only p l x e s (omega arith)))

  -- nor does a search for the first
  pub first-only : (p : A → Bool) (l : List A) (i : ℕ) (d : A) → count p l ≤ 1 → i < length l → p (get_or l i d) ≡ true → first p l ≡ Some i
  unfolding first_from count
  first-only p l i d one h e = from l i 0 one h e ∙ ap Some (omega arith)
    where
      from : (l : List A) (i k : ℕ) → count p l ≤ 1 → i < length l → p (get_or l i d) ≡ true → first_from p k l ≡ Some (k + i)
      from [] i k one h e = absurd (omega arith)
      from (x ∷ l) zero k one h e = rw e (ap Some (omega arith))
      from (x ∷ l) (suc i) k one h e = by-test (p x)
          (λ t. absurd (omega (arith, ap tick t, count_at p l i d (omega arith) e)))
          (λ t. rw t (from l i (suc k) (omega (arith, ap tick t)) (omega arith) e ∙ ap Some (omega arith)))

  -- without it that one is gone
  pub removed-once : (p q : A → Bool) (l : List A) (x : A) → q x ≡ true → Stands x l → count q l ≤ 1
      → count p l ≡ tick (p x) + count (λ z. not (q z) && p z) l
  removed-once p q l x e h one = by-test (p x)
      (λ t.
      let a : 1 ≤ count (λ z. q z && p z) l = stands-count _ l x (and_both (q x) (p x) e t) h in
      let b : count (λ z. q z && p z) l ≤ count q l = count-le _ q l (λ z. and_left (q z) (p z)) in
      rw t (omega (arith, count-split p q l)))
      (λ t.
      let a : 1 ≤ count (λ z. not (p z) && q z) l = stands-count _ l x (rw t e) h in
      let b : count (λ z. q z && p z) l ≤ count (λ z. p z && q z) l =
      count-le _ _ l (λ z u. and_both (p z) (q z) (and_right (q z) (p z) u) (and_left (q z) (p z) u)) in
      rw t (omega (arith, count-split p q l, count-split q p l)))

  -- ---- tests that agree on every element of a list
  pub count-where : (ok p q : A → Bool) (l : List A) → all_of ok l ≡ true → ((x : A) → ok x ≡ true → p x ≡ q x) → count p l ≡ count q l
  unfolding count all_of
  count-where ok p q [] h k = refl
  count-where ok p q (x ∷ l) h k = omega (arith, ap tick (k x (and_left (ok x) _ h)), count-where ok p q l (and_right (ok x) _ h) k)

  module _ (ok p p' : A → Bool) (e : (x : A) → ok x ≡ true → p x ≡ p' x) where
    first_from_lem : (l : List A) (k : ℕ) → all_of ok l ≡ true → first_from p k l ≡ first_from p' k l
    unfolding first_from all_of
    first_from_lem [] k h = refl
    first_from_lem (x ∷ l) k h = rw (e x (and_left (ok x) _ h), first_from_lem l (suc k) (and_right (ok x) _ h))

    pub first-where : (l : List A) → all_of ok l ≡ true → first p l ≡ first p' l
    first-where l h = first_from_lem l 0 h

    pub upto-where : (q q' : A → Bool) → ((x : A) → ok x ≡ true → q x ≡ q' x) → (l : List A) → all_of ok l ≡ true → count_up_to q p l ≡ count_up_to q' p' l
    unfolding count_up_to all_of
    upto-where q q' f [] h = refl
    upto-where q q' f (x ∷ l) h =
        let o : ok x ≡ true = and_left (ok x) _ h in
        rw (e x o, f x o, upto-where q q' f l (and_right (ok x) _ h))

  -- ---- how many up to the first that passes: of the elements up to it and with it, or of all
  module _ (q p : A → Bool) where
    upto_from : (l : List A) (k j : ℕ) → first_from p k l ≡ Some j → (i : ℕ) × (j ≡ k + i) × (count_up_to q p l ≡ count q (take (suc i) l))
    unfolding first_from count_up_to count
    upto_from [] k j h = absurd (let z : ◌≡◌ {A = ℕ} 0 1 = cc in omega arith)
    upto_from (x ∷ l) k j h = by-test (p x)
        (λ t.
        let at : Some k ≡ Some j = rw t at h in
        let here : k ≡ j = cc in
        (0, omega arith, rw t))
        (λ t.
        let (i, n, c) = upto_from l (suc k) j (rw t at h) in
        (suc i, omega arith, rw (t, c)))

    pub upto-found : (l : List A) (i : ℕ) → first p l ≡ Some i → count_up_to q p l ≡ count q (take (i + 1) l)
    upto-found l i h =
        let (j, n, c) = upto_from l 0 i h in
        let e : suc j ≡ i + 1 = omega arith in
        c ∙ ap (λ (k : ℕ). count q (take k l)) e

    pub upto-none : (l : List A) → count p l ≡ 0 → count_up_to q p l ≡ count q l
    unfolding count_up_to count
    upto-none [] h = refl
    upto-none (x ∷ l) h = by-test (p x)
        (λ t. absurd (omega (arith, ap tick t)))
        (λ t. rw (t, upto-none l (omega (arith, ap tick t))))

  -- ---- none passes
  pub zero-none : (p : A → Bool) (l : List A) → eqb (count p l) 0 ≡ not (any_of p l)
  zero-none p l = by-test (any_of p l)
      (λ e. rw e (ne_eqb (count p l) 0 (λ z. clash e (count-any p l z))))
      (λ e. rw e (eq-eqb (count p l) 0 (none-count p l e)))

  pub without-none : (p : A → Bool) (l : List A) → count p l ≡ 0 → without p l ≡ l
  unfolding count passing
  without-none p [] h = refl
  without-none p (x ∷ l) h = by-test (p x)
      (λ e. absurd (omega (arith, ap tick e)))
      (λ e. rw (e, without-none p l (omega (arith, ap tick e))))

  -- ---- those that pass, counted
  pub how_many_lem : (p : A → Bool) (l : List A) → how_many p l ≡ count p l
  unfolding count passing
  how_many_lem p [] = refl
  how_many_lem p (x ∷ l) = by-test (p x) (λ e. rw e (omega (arith, how_many_lem p l))) (λ e. rw e (omega (arith, how_many_lem p l)))

  pub none_passes_lem : (p : A → Bool) (l : List A) → none_passes p l ≡ not (any_of p l)
  none_passes_lem p l = rw (how_many_lem p l) (zero-none p l)
