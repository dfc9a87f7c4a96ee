-- What the second texts say of lists, all by one definition: those that pass a test. Over any type and any test. Assumes nothing.
use Rattle.std.specs.Prelude.{Bool, not, cond, List, [], ◌∷◌, ℕ, eqb, length, Some, None, Option}

module _ {A : Type 0} where
  -- those that pass, in their order
  unfoldable pub passing : (A → Bool) → List A → List A
  passing p [] = []
  passing p (x ∷ r) = cond (p x) (x ∷ passing p r) (passing p r)

  -- how many pass, and whether none does
  abbrev pub how_many : (A → Bool) → List A → ℕ
  how_many p l = length (passing p l)

  abbrev pub none_passes : (A → Bool) → List A → Bool
  none_passes p l = eqb (how_many p l) 0

  -- those that do not pass
  abbrev pub without : (A → Bool) → List A → List A
  without p l = passing (λ x. not (p x)) l

  -- the first that passes
  abbrev pub head_of : List A → Option A
  head_of [] = None
  head_of (x ∷ r) = Some x

  abbrev pub find : (A → Bool) → List A → Option A
  find p l = head_of (passing p l)
