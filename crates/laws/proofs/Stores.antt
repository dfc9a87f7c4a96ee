-- Runs of stores (`sets`): two that adjoin are one, and what a run from the front leaves. Over any type. Assumes nothing.
use mathlib.Core.Path.{◌≡◌, ◌∙◌}
use mathlib.Core.List.{List, [], ◌∷◌, ◌++◌}
use Prim.Native.Nat.{ℕ, suc, ◌+◌, ◌≤◌}
use native.Mathlib.Nat.{add-zero}
use native.Mathlib.Omega.{arith}
use lib.ListN.{length, set, take, drop}
use lib.Seq.{sets, sets-eq, take_at, drop_at}

module _ {A : Type 0} where
  -- stores one after the other are one run of stores
  pub sets-append : (a b l : List A) (i : ℕ) → sets l i (a ++ b) ≡ sets (sets l i a) (i + length a) b
  sets-append [] b l i = rw add-zero
  sets-append (x ∷ a) b l i =
      let e : suc i + length a ≡ i + suc (length a) = omega arith in
      sets-append a b (set l i x) (suc i) ∙ rw e

  -- n stores from the front: they stand there, and what is past them stays
  module _ (l vs : List A) (n : ℕ) (e : length vs ≡ n) (h : n ≤ length l) where
    sets-front : sets l 0 vs ≡ vs ++ drop n l
    sets-front =
        let z : 0 + length vs ≡ n = omega arith in
        sets-eq vs l 0 (omega arith) ∙ rw z

    pub take-sets : take n (sets l 0 vs) ≡ vs
    take-sets = rw sets-front (take_at vs (drop n l) n e)

    pub drop-sets : drop n (sets l 0 vs) ≡ drop n l
    drop-sets = rw sets-front (drop_at vs (drop n l) n e)
