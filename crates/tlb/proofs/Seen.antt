-- What a search that has come to slot j knows: what it yields, by the pages compared before and a search of the slots from j on. Assumes nothing.
use Rattle.std.proofs.Common.{◌≡◌, ℕ, suc, ◌+◌, ◌≤◌, ◌<◌, true, false, Bool, List, [], ◌∷◌, ◌++◌, length, get_or, drop, sym, ap, ap₂, ◌∙◌, arith, append-nil, length-drop, Some, None, Option}
use lib.Seq.{drop-length}
use Rattle.laws.specs.Tests.{tick, first_from, count_up_to}
use Rattle.laws.proofs.Bools.{and_both, by-test}
use Rattle.laws.proofs.Walks.{first-hit, first-pass, first-end, found_at, upto-hit, upto-pass, upto-end}
use Rattle.machine.specs.Slots.{no_slot}
use Rattle.machine.specs.declared.Searched.{Searched}
use Rattle.machine.specs.declared.Slot.{Slot}
use Rattle.tlb.specs.Tables.{compared_by, starts_by, answers_by, searched_by, after}

-- ---- a search of a part, and of what comes behind it
module _ {A : Type 0} (q p : A → Bool) (b : List A) where
  part-found : (a : List A) (k i m : ℕ) → first_from p k a ≡ Some i → first_from p (m + k) (a ++ b) ≡ Some (m + i)
  unfolding first_from
  part-found [] k i m h = cc
  part-found (x ∷ a) k i m h = by-test (p x)
      (λ t. let e : Some k ≡ Some i = rw t at h in let f : k ≡ i = cc in rw (t, f))
      (λ t.
      let e : first_from p (suc k) a ≡ Some i = rw t at h in
      let f : suc (m + k) ≡ m + suc k = omega arith in
      rw (t, f) (part-found a (suc k) i m e))

  part-none : (a : List A) (k m n : ℕ) → first_from p k a ≡ None → n ≡ m + length a → first_from p m (a ++ b) ≡ first_from p n b
  unfolding first_from
  part-none [] k m n h e = ap (λ (z : ℕ). first_from p z b) (omega arith)
  part-none (x ∷ a) k m n h e = by-test (p x)
      (λ t. let f : Some k ≡ None = rw t at h in cc)
      (λ t. let f : first_from p (suc k) a ≡ None = rw t at h in rw t (part-none a (suc k) (suc m) n f (omega arith)))

  upto-found : (a : List A) (k i : ℕ) → first_from p k a ≡ Some i → count_up_to q p (a ++ b) ≡ count_up_to q p a
  unfolding first_from count_up_to
  upto-found [] k i h = cc
  upto-found (x ∷ a) k i h = by-test (p x)
      (λ t. rw t)
      (λ t. let f : first_from p (suc k) a ≡ Some i = rw t at h in rw (t, upto-found a (suc k) i f))

  upto-none : (a : List A) (k : ℕ) → first_from p k a ≡ None → count_up_to q p (a ++ b) ≡ count_up_to q p a + count_up_to q p b
  unfolding first_from count_up_to
  upto-none [] k h = omega arith
  upto-none (x ∷ a) k h = by-test (p x)
      (λ t. let f : Some k ≡ None = rw t at h in cc)
      (λ t. let f : first_from p (suc k) a ≡ None = rw t at h in rw (t, upto-none a (suc k) f) (omega arith))

abbrev pub Seen : ℕ → List ℕ → List Slot → ℕ → ℕ → Type 0
Seen owner start s c j = searched_by owner start 0 s ≡ after c (searched_by owner start j (drop j s))

abbrev yields : Option ℕ → ℕ → Searched
yields f c = record { found = f; compared = c }

module _ (owner : ℕ) (start : List ℕ) (s : List Slot) where
  pub seen_start : Seen owner start s 0 0
  seen_start = ap (yields _) (omega arith)

  module _ (c j : ℕ) (h : Seen owner start s c j) where
    -- ---- slot by slot
    module _ (x : Slot) (is : get_or s j no_slot ≡ x) (b : j < length s) where
      pub seen-found : compared_by owner x ≡ true → starts_by start x ≡ true → searched_by owner start 0 s ≡ yields (Some j) (c + 1)
      unfolding answers_by
      seen-found a e =
          let y : answers_by owner start (get_or s j no_slot) ≡ true = rw is (and_both _ _ a e) in
          let z : tick (compared_by owner (get_or s j no_slot)) ≡ 1 = rw (is, a) in
          h ∙ ap₂ yields (first-hit no_slot s j _ b y)
          (ap (λ (n : ℕ). c + n) (upto-hit no_slot s j (compared_by owner) (answers_by owner start) b y ∙ z))

      -- slot j does not answer
      pub seen_more : answers_by owner start x ≡ false → (d : ℕ) → d ≡ c + tick (compared_by owner x) → Seen owner start s d (j + 1)
      seen_more n d e =
          let y : answers_by owner start (get_or s j no_slot) ≡ false = rw is n in
          let z : d ≡ c + tick (compared_by owner (get_or s j no_slot)) = rw is e in
          h ∙ ap₂ yields (first-pass no_slot s j _ b y)
          (omega (arith, z, upto-pass no_slot s j (compared_by owner) (answers_by owner start) b y))

    pub seen_end : length s ≤ j → searched_by owner start 0 s ≡ yields None c
    seen_end e =
        h ∙ ap₂ yields (first-end no_slot s j _ e)
        (omega (arith, upto-end no_slot s j (compared_by owner) (answers_by owner start) e))

    -- ---- by a search of the slots from j to k
    module _ (part : List Slot) (k : ℕ) (is : drop j s ≡ part ++ drop k s) (w : Searched) (v : w ≡ searched_by owner start 0 part) where
      pub turn-found : (i : ℕ) → w.found ≡ Some i → searched_by owner start 0 s ≡ yields (Some (j + i)) (c + w.compared)
      turn-found i f =
          let g : first_from (answers_by owner start) 0 part ≡ Some i = ap (λ (z : Searched). z.found) (sym v) ∙ f in
          let p = answers_by owner start in
          h ∙ rw is (ap₂ yields (ap (λ (z : ℕ). first_from p z (part ++ drop k s)) (omega arith) ∙ part-found (compared_by owner) p (drop k s) part 0 i j g)
          (omega (arith, ap (λ (z : Searched). z.compared) v, upto-found (compared_by owner) p (drop k s) part 0 i g)))

      pub turn-past : w.found ≡ None → k ≡ j + length part → Seen owner start s (c + w.compared) k
      turn-past f e =
          let g : first_from (answers_by owner start) 0 part ≡ None = ap (λ (z : Searched). z.found) (sym v) ∙ f in
          h ∙ rw is (ap₂ yields (part-none (compared_by owner) _ (drop k s) part 0 j k g e)
          (omega (arith, ap (λ (z : Searched). z.compared) v, upto-none (compared_by owner) _ (drop k s) part 0 g)))

-- ---- by a search of all the slots from j on
module _ (owner : ℕ) (start : List ℕ) (s : List Slot) (c j : ℕ) (h : Seen owner start s c j) (w : Searched) (v : w ≡ searched_by owner start 0 (drop j s)) where
  all-split : drop j s ≡ drop j s ++ drop (length s) s
  all-split = rw (drop-length s) (sym (append-nil (drop j s)))

  pub rest-found : (i : ℕ) → w.found ≡ Some i → searched_by owner start 0 s ≡ yields (Some (j + i)) (c + w.compared)
  rest-found i f = turn-found owner start s c j h (drop j s) (length s) all-split w v i f

  pub rest-past : j ≤ length s → w.found ≡ None → searched_by owner start 0 s ≡ yields None (c + w.compared)
  rest-past b f =
      let k : length s ≡ j + length (drop j s) = omega (arith, length-drop j s) in
      seen_end owner start s (c + w.compared) (length s) (turn-past owner start s c j h (drop j s) (length s) all-split w v f k) (omega arith)

-- what is found is one of the slots
pub found-inside : (owner : ℕ) (start : List ℕ) (part : List Slot) (w : Searched) → w ≡ searched_by owner start 0 part → (i : ℕ) → w.found ≡ Some i → i < length part
found-inside owner start part w v i f = (found_at no_slot (answers_by owner start) part i (ap (λ (z : Searched). z.found) (sym v) ∙ f)).0
