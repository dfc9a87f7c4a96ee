-- Slots as rows of four words. Assumes nothing.
use Rattle.std.proofs.Common.{◌≡◌, ℕ, zero, suc, ◌+◌, ◌*◌, ◌/◌, ◌<◌, ◌≤◌, List, [], ◌∷◌, map, length, get_or, take, drop, refl, sym, ap, ◌∙◌, arith, true, false, Bool, ◌++◌, drop-drop, length-take, length-drop, min, ◌-◌, ltb, ltb-true, ltb-false, drop_of_length-le}
use Rattle.std.specs.Simd.{first_chunks}
use Rattle.std.proofs.lemmas.List.{length-map, get_or-map, take-map, drop-map, take-append-drop, take_rest}
use lib.Seq.{drop-length}
use Rattle.laws.proofs.Bools.{by-test}
use Rattle.laws.specs.Tests.{any_of}
use Rattle.laws.proofs.Walks.{any-hit, any-pass, any-end}
use Rattle.machine.specs.Slots.{slots_of, slot_of, no_slot}
use Rattle.machine.specs.declared.Slot.{Slot}
use Rattle.machine.proofs.Slots.{slots_length}
use Rattle.tlb.specs.Rows.{row_slot}

-- cut into rows, words hold their slots
pub cut_rows : (l : List ℕ) (n : ℕ) → n ≡ length l / 4 → map row_slot (first_chunks 4 n l) ≡ slots_of l
unfolding slots_of
cut_rows [] zero h = refl
cut_rows (a ∷ []) zero h = refl
cut_rows (a ∷ b ∷ []) zero h = refl
cut_rows (a ∷ b ∷ c ∷ []) zero h = refl
cut_rows (a ∷ b ∷ c ∷ d ∷ r) zero h = absurd (omega arith)
cut_rows [] (suc n) h = absurd (omega arith)
cut_rows (a ∷ []) (suc n) h = absurd (omega arith)
cut_rows (a ∷ b ∷ []) (suc n) h = absurd (omega arith)
cut_rows (a ∷ b ∷ c ∷ []) (suc n) h = absurd (omega arith)
cut_rows (a ∷ b ∷ c ∷ d ∷ r) (suc n) h =
    ap (λ (t : List Slot). record { owner = a; page = b; word = c; flags = d } ∷ t) (cut_rows r n (omega arith))

-- ---- rows that hold the slots of some words
module _ (rows : List (List ℕ)) (l : List ℕ) (h : map row_slot rows ≡ slots_of l) where
  pub rows_length : length rows ≡ length l / 4
  rows_length = omega (arith, length-map rows row_slot, ap length h, slots_length l)

  pub row-get : (i : ℕ) (d : List ℕ) → i < length rows → row_slot (get_or rows i d) ≡ slot_of l i
  row-get i d b = sym (get_or-map row_slot rows i d no_slot b) ∙ ap (λ (s : List Slot). get_or s i no_slot) h

-- row i of some
pub row_is : (rows : List (List ℕ)) (i : ℕ) (d : List ℕ) → i < length rows → get_or (map row_slot rows) i no_slot ≡ row_slot (get_or rows i d)
row_is rows i d b = get_or-map row_slot rows i d no_slot b

-- ---- chunk i of sixteen elements each
pub chunk_is : {A : Type 0} (m i : ℕ) (l : List A) (d : List A) → i < m → get_or (first_chunks 16 m l) i d ≡ take 16 (drop (i * 16) l)
chunk_is zero i l d h = absurd (omega arith)
chunk_is (suc m) zero l d h = refl
chunk_is (suc m) (suc i) l d h =
    let e : 16 + i * 16 ≡ suc i * 16 = omega arith in
    chunk_is m i (drop 16 l) d (omega arith) ∙ ap (take 16) (drop-drop (i * 16) 16 l ∙ ap (λ (n : ℕ). drop n l) e)

pub chunks_length : {A : Type 0} (k m : ℕ) (l : List A) → length (first_chunks k m l) ≡ m
chunks_length k zero l = refl
chunks_length k (suc m) l = ap suc (chunks_length k m (drop k l))

-- ---- a test of the rows from i on
pub inside : (rows : List (List ℕ)) (i : ℕ) → i < length rows → i < length (map row_slot rows)
inside rows i h = omega (arith, length-map rows row_slot)

module _ (p : Slot → Bool) (rows : List (List ℕ)) (i : ℕ) where
  pub row-hit : (d : List ℕ) → i < length rows → p (row_slot (get_or rows i d)) ≡ true → any_of p (drop i (map row_slot rows)) ≡ true
  row-hit d h t = any-hit no_slot (map row_slot rows) i p (inside rows i h) (ap p (row_is rows i d h) ∙ t)

  pub row-pass : (d : List ℕ) → i < length rows → p (row_slot (get_or rows i d)) ≡ false
      → any_of p (drop i (map row_slot rows)) ≡ any_of p (drop (i + 1) (map row_slot rows))
  row-pass d h t = any-pass no_slot (map row_slot rows) i p (inside rows i h) (ap p (row_is rows i d h) ∙ t)

  pub row-end : length rows ≤ i → any_of p (drop i (map row_slot rows)) ≡ false
  row-end h = any-end no_slot (map row_slot rows) i p (omega (arith, length-map rows row_slot))

-- ---- turns of sixteen rows
module _ (rows : List (List ℕ)) (s : List Slot) (h : map row_slot rows ≡ s) (turns : List (List (List ℕ))) (is : turns ≡ first_chunks 16 (length rows / 16) rows) where
  module _ (k : ℕ) (b : k < length rows / 16) where
    turn_is : get_or turns k [] ≡ take 16 (drop (k * 16) rows)
    turn_is = ap (λ (t : List (List (List ℕ))). get_or t k []) is ∙ chunk_is (length rows / 16) k rows [] b

    pub turn_length : length (map row_slot (get_or turns k [])) ≡ 16
    turn_length = rw turn_is (simp (length-map, length-take, length-drop) (omega arith))

    -- what is left when k turns are done: the turn and the rest
    pub turn_split : (n : ℕ) → n ≡ k * 16 + 16 → drop (k * 16) s ≡ map row_slot (get_or turns k []) ++ drop n s
    turn_split n e =
        rw (turn_is, ← h, e) (sym (rw (← take-map row_slot 16 (drop (k * 16) rows), ← drop-map row_slot (k * 16) rows, ← drop-drop 16 (k * 16) (map row_slot rows))
        (take-append-drop 16 (drop (k * 16) (map row_slot rows)))))

  -- behind the last turn
  pub rest_is : (rest : List (List ℕ)) → rest ≡ drop (length rows / 16 * 16) rows → map row_slot rest ≡ drop (length rows / 16 * 16) s
  rest_is rest e = rw (e, ← h) (sym (drop-map row_slot (length rows / 16 * 16) rows))

-- ---- the rows from one on, however far that is
drop-min : (s : List Slot) (from m : ℕ) → m ≡ min from (length s) → drop m s ≡ drop from s
drop-min s from m e = by-test (ltb from (length s))
    (λ t. let b = ltb-true from (length s) t in ap (λ (n : ℕ). drop n s) (omega arith))
    (λ t.
    let b : length s ≤ from = ltb-false from (length s) t in
    let f : m ≡ length s = omega arith in
    rw f (drop-length s ∙ sym (rw (drop_of_length-le s))))

pub later_is : (rows : List (List ℕ)) (l : List ℕ) → map row_slot rows ≡ slots_of l → (from m : ℕ) → m ≡ min from (length rows)
    → map row_slot (take (length rows - m) (drop m rows)) ≡ drop from (slots_of l)
later_is rows l h from m e =
    ap (map row_slot) (take_rest rows m) ∙ sym (drop-map row_slot m rows) ∙ ap (drop m) h
    ∙ drop-min (slots_of l) from m (rw (sym (ap length h) ∙ length-map rows row_slot) e)
