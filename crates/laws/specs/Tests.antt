-- Tests of the elements of a list: how many pass, whether any or all do, the first that does, and how many up to it. Over any type and any test.
-- Assumes nothing.
use Rattle.std.specs.Prelude.{Bool, true, false, not, cond, ◌&&◌, ◌||◌, List, [], ◌∷◌, ℕ, zero, suc, ◌+◌, Some, None, Option}

-- 1 where a test passes
abbrev pub tick : Bool → ℕ
tick test = cond test 1 0

-- whether a test passes at every number below n
unfoldable pub all_below : (ℕ → Bool) → ℕ → Bool
all_below test zero = true
all_below test (suc n) = test n && all_below test n

module _ {A : Type 0} where
  -- how many pass
  unfoldable pub count : (A → Bool) → List A → ℕ
  count p [] = 0
  count p (x ∷ r) = tick (p x) + count p r

  -- whether any passes
  unfoldable pub any_of : (A → Bool) → List A → Bool
  any_of p [] = false
  any_of p (x ∷ r) = p x || any_of p r

  -- whether all pass
  unfoldable pub all_of : (A → Bool) → List A → Bool
  all_of p [] = true
  all_of p (x ∷ r) = p x && all_of p r

  -- whether no element clashes with a later one
  unfoldable pub pairwise : (A → A → Bool) → List A → Bool
  pairwise clash [] = true
  pairwise clash (x ∷ r) = not (any_of (clash x) r) && pairwise clash r

  -- the index of the first that passes, counted from k
  unfoldable pub first_from : (A → Bool) → ℕ → List A → Option ℕ
  first_from p k [] = None
  first_from p k (x ∷ r) = cond (p x) (Some k) (first_from p (suc k) r)

  abbrev pub first : (A → Bool) → List A → Option ℕ
  first p s = first_from p 0 s

  -- how many pass a test, up to and with the first that passes another; of all where none does
  unfoldable pub count_up_to : (A → Bool) → (A → Bool) → List A → ℕ
  count_up_to counted p [] = 0
  count_up_to counted p (x ∷ r) = tick (counted x) + cond (p x) 0 (count_up_to counted p r)
