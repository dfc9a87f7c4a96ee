-- What a loop over a list knows: a search, a test or a count of the elements from i on, and a rewriting of those before i.
-- Over any type and any test. Assumes nothing.
use Rattle.std.proofs.Common.{Some, None, Option}
use mathlib.Core.Path.{◌≡◌, refl, ap, ◌∙◌}
use mathlib.Core.Bool.{Bool, true, false, not, cond, ◌&&◌, ◌||◌, and-false, or_comm}
use mathlib.Core.List.{List, [], ◌∷◌, map}
use Prim.Native.Nat.{ℕ, zero, suc, ◌+◌, ◌≤◌, ◌<◌}
use native.Mathlib.Omega.{arith}
use native.Mathlib.Numerals.{add-one}
use lib.ListN.{length, get_or, set, drop, drop_of_length-le}
use lib.Seq.{drop-cons}
use Rattle.laws.specs.Tests.{tick, count, any_of, all_of, pairwise, first_from, first, count_up_to}
use Rattle.laws.proofs.Bools.{by-test}

module _ {A : Type 0} (d : A) (s : List A) (i : ℕ) where
  -- ---- the first that passes
  module _ (p : A → Bool) where
    first_step : i < length s → first_from p i (drop i s) ≡ cond (p (get_or s i d)) (Some i) (first_from p (i + 1) (drop (i + 1) s))
    unfolding first_from
    first_step h = rw (add-one, drop-cons s i d)

    pub first-hit : i < length s → p (get_or s i d) ≡ true → first_from p i (drop i s) ≡ Some i
    first-hit h t = first_step h ∙ rw t

    pub first-pass : i < length s → p (get_or s i d) ≡ false → first_from p i (drop i s) ≡ first_from p (i + 1) (drop (i + 1) s)
    first-pass h t = first_step h ∙ rw t

    pub first-end : length s ≤ i → first_from p i (drop i s) ≡ None
    unfolding first_from
    first-end h = rw (drop_of_length-le s)

    -- ---- whether any passes
    pub any_step : i < length s → any_of p (drop i s) ≡ (p (get_or s i d) || any_of p (drop (i + 1) s))
    unfolding any_of
    any_step h = rw (add-one, drop-cons s i d)

    pub any-hit : i < length s → p (get_or s i d) ≡ true → any_of p (drop i s) ≡ true
    any-hit h t = any_step h ∙ rw t

    pub any-pass : i < length s → p (get_or s i d) ≡ false → any_of p (drop i s) ≡ any_of p (drop (i + 1) s)
    any-pass h t = any_step h ∙ rw t

    pub any-end : length s ≤ i → any_of p (drop i s) ≡ false
    unfolding any_of
    any-end h = rw (drop_of_length-le s)

    -- ---- whether all pass
    all-step : i < length s → all_of p (drop i s) ≡ (p (get_or s i d) && all_of p (drop (i + 1) s))
    unfolding all_of
    all-step h = rw (add-one, drop-cons s i d)

    pub all-fail : i < length s → p (get_or s i d) ≡ false → all_of p (drop i s) ≡ false
    all-fail h t = all-step h ∙ rw t

    pub all_pass : i < length s → p (get_or s i d) ≡ true → all_of p (drop i s) ≡ all_of p (drop (i + 1) s)
    all_pass h t = all-step h ∙ rw t

    pub all_end : length s ≤ i → all_of p (drop i s) ≡ true
    unfolding all_of
    all_end h = rw (drop_of_length-le s)

    -- ---- how many pass
    pub count-step : i < length s → count p (drop i s) ≡ tick (p (get_or s i d)) + count p (drop (i + 1) s)
    unfolding count
    count-step h = rw (add-one, drop-cons s i d)

    pub count-end : length s ≤ i → count p (drop i s) ≡ 0
    unfolding count
    count-end h = rw (drop_of_length-le s)

  -- ---- how many pass a test, up to the first that passes another
  module _ (q p : A → Bool) where
    upto_step : i < length s → count_up_to q p (drop i s) ≡ tick (q (get_or s i d)) + cond (p (get_or s i d)) 0 (count_up_to q p (drop (i + 1) s))
    unfolding count_up_to
    upto_step h = rw (add-one, drop-cons s i d)

    pub upto-hit : i < length s → p (get_or s i d) ≡ true → count_up_to q p (drop i s) ≡ tick (q (get_or s i d))
    upto-hit h t = upto_step h ∙ rw t (omega arith)

    pub upto-pass : i < length s → p (get_or s i d) ≡ false → count_up_to q p (drop i s) ≡ tick (q (get_or s i d)) + count_up_to q p (drop (i + 1) s)
    upto-pass h t = upto_step h ∙ rw t

    pub upto-end : length s ≤ i → count_up_to q p (drop i s) ≡ 0
    unfolding count_up_to
    upto-end h = rw (drop_of_length-le s)

  -- ---- whether no element clashes with a later one
  module _ (f : A → A → Bool) where
    pair_step : i < length s → pairwise f (drop i s) ≡ (not (any_of (f (get_or s i d)) (drop (i + 1) s)) && pairwise f (drop (i + 1) s))
    unfolding pairwise
    pair_step h = rw (add-one, drop-cons s i d)

    pub pair-fail : i < length s → any_of (f (get_or s i d)) (drop (i + 1) s) ≡ true → pairwise f (drop i s) ≡ false
    pair-fail h t = pair_step h ∙ rw t

    pub pair-pass : i < length s → any_of (f (get_or s i d)) (drop (i + 1) s) ≡ false → pairwise f (drop i s) ≡ pairwise f (drop (i + 1) s)
    pair-pass h t = pair_step h ∙ rw t

    pub pair_end : length s ≤ i → pairwise f (drop i s) ≡ true
    unfolding pairwise
    pair_end h = rw (drop_of_length-le s)

-- a clash further on is a clash
pub pair-drop : {A : Type 0} (f : A → A → Bool) (s : List A) (i : ℕ) → pairwise f (drop i s) ≡ false → pairwise f s ≡ false
unfolding pairwise
pair-drop f s zero h = h
pair-drop f [] (suc i) h = h
pair-drop f (x ∷ r) (suc i) h = rw (pair-drop f r i h) (and-false (not (any_of (f x) r)))

-- ---- what a search says: the index found is within and passes, or none passes
module _ {A : Type 0} (d : A) (p : A → Bool) where
  abbrev pub Says : List A → ℕ → Option ℕ → Type 0
  Says s k (Some j) = (i : ℕ) × (j ≡ k + i) × (i < length s) × (p (get_or s i d) ≡ true)
  Says s k None = any_of p s ≡ false

  says-more : (x : A) (s : List A) (k : ℕ) (f : Option ℕ) → p x ≡ false → Says s (suc k) f → Says (x ∷ s) k f
  unfolding any_of
  says-more x s k (Some j) e h = (suc h.0, omega (arith, h.1), omega (arith, h.2), h.3)
  says-more x s k None e h = rw e h

  says-from : (s : List A) (k : ℕ) → Says s k (first_from p k s)
  unfolding first_from any_of
  says-from [] k = refl
  says-from (x ∷ s) k = by-test (p x)
      (λ e. rw e (0, omega arith, omega arith, e))
      (λ e. rw e (says-more x s k (first_from p (suc k) s) e (says-from s (suc k))))

  pub first_says : (s : List A) → Says s 0 (first p s)
  first_says s = says-from s 0

  pub found_at : (s : List A) (j : ℕ) → first p s ≡ Some j → (j < length s) × (p (get_or s j d) ≡ true)
  found_at s j e = go (rw e at (first_says s))
    where
      go : Says s 0 (Some j) → (j < length s) × (p (get_or s j d) ≡ true)
      go h =
          let q : h.0 ≡ j = omega (arith, h.1) in
          (omega (arith, h.2), rw q at h.3)

  pub any_at : (s : List A) (i : ℕ) → i < length s → p (get_or s i d) ≡ true → any_of p s ≡ true
  unfolding any_of
  any_at [] i h t = absurd (omega arith)
  any_at (x ∷ s) zero h t = rw t
  any_at (x ∷ s) (suc i) h t = rw (any_at s i (omega arith) t) (or_comm (p x) true)

  pub found-any : (s : List A) (j : ℕ) → first p s ≡ Some j → any_of p s ≡ true
  found-any s j e = let f = found_at s j e in any_at s j f.0 f.1

  pub found_none : (s : List A) → first p s ≡ None → any_of p s ≡ false
  found_none s e = rw e at (first_says s)

-- ---- f on the first i elements: what a loop that rewrites each element has done
unfoldable pub map_first : {A : Type 0} → (A → A) → ℕ → List A → List A
map_first f zero s = s
map_first f (suc i) [] = []
map_first f (suc i) (x ∷ r) = f x ∷ map_first f i r

module _ {A : Type 0} (f : A → A) (d : A) where
  pub map-start : (s : List A) → map_first f 0 s ≡ s
  unfolding map_first
  map-start s = refl

  pub map-length : (s : List A) (i : ℕ) → length (map_first f i s) ≡ length s
  unfolding map_first
  map-length s zero = refl
  map-length [] (suc i) = refl
  map-length (x ∷ r) (suc i) = ap suc (map-length r i)

  -- element i is as it was
  pub map_read : (s : List A) (i : ℕ) → get_or (map_first f i s) i d ≡ get_or s i d
  unfolding map_first
  map_read s zero = refl
  map_read [] (suc i) = refl
  map_read (x ∷ r) (suc i) = map_read r i

  -- one turn
  pub map-turn : (s : List A) (i : ℕ) → i < length s → set (map_first f i s) i (f (get_or (map_first f i s) i d)) ≡ map_first f (i + 1) s
  unfolding map_first
  map-turn [] i h = absurd (omega arith)
  map-turn (x ∷ r) zero h = refl
  map-turn (x ∷ r) (suc i) h = rw (add-one (suc i)) (ap (λ (t : List A). f x ∷ t) (map-turn r i (omega arith) ∙ rw (add-one i)))

  pub map-end : (s : List A) (i : ℕ) → length s ≤ i → map_first f i s ≡ map f s
  unfolding map_first
  map-end [] zero h = refl
  map-end [] (suc i) h = refl
  map-end (x ∷ r) zero h = absurd (omega arith)
  map-end (x ∷ r) (suc i) h = ap (λ (t : List A). f x ∷ t) (map-end r i (omega arith))
