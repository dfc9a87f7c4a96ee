-- Slots four a turn, none of which passes a sieve. Assumes nothing.
use Rattle.std.proofs.Common.{◌≡◌, ℕ, zero, suc, ◌+◌, ◌-◌, ◌*◌, ◌/◌, ◌<◌, ◌≤◌, false, ltb, ltb-true, ltb-false, List, [], map, length, get_or, take, drop, refl, sym, ap, ◌∙◌, arith, drop-drop, length-take, length-drop}
use Rattle.std.specs.Simd.{first_chunks}
use Rattle.std.proofs.lemmas.List.{take-map, drop-map, take_rest, get_or-take, get_or-drop}
use Rattle.laws.specs.Tests.{any_of}
use Rattle.laws.proofs.Bools.{by-test, clash}
use Rattle.laws.proofs.Walks.{any_at}
use Rattle.machine.specs.Slots.{slots_of, slot_of, no_slot}
use Rattle.machine.specs.declared.Slot.{Slot}
use Rattle.machine.proofs.Slots.{slots_length}
use Rattle.tlb.specs.Rows.{row_slot}
use Rattle.tlb.proofs.ByRow.{rows_length}
use Rattle.tlb_update.specs.declared.Sieve.{Sieve}
use Rattle.tlb_update.specs.Sieves.{passes, NonePass}

-- turn k of some rows
turn_is : (m k : ℕ) (rows : List (List ℕ)) → k < m → get_or (first_chunks 4 m rows) k [] ≡ take 4 (drop (k * 4) rows)
turn_is zero k rows h = absurd (omega arith)
turn_is (suc m) zero rows h = refl
turn_is (suc m) (suc k) rows h =
    let e : 4 + k * 4 ≡ suc k * 4 = omega arith in
    turn_is m k (drop 4 rows) (omega arith) ∙ ap (take 4) (drop-drop (k * 4) 4 rows ∙ ap (λ (n : ℕ). drop n rows) e)

-- four slots more that do not pass
four_more : (sieve : Sieve) (l : List ℕ) (from i r : ℕ) → i * 4 + 16 ≤ length l → r ≡ i + 4 → any_of (passes sieve) (take 4 (drop i (slots_of l))) ≡ false
    → NonePass sieve l from i → NonePass sieve l from r
four_more sieve l from i r h n e w = (
  omega (arith, n, w.0),
  omega (arith, n),
  λ j a b. by-test (ltb j i)
      (λ t. w.2 j a (ltb-true j i t))
      (λ t.
      let s : List Slot = slots_of l in
      let o : i ≤ j = ltb-false j i t in
      let four : List Slot = take 4 (drop i s) in
      let at : i + (j - i) ≡ j = omega (arith, o) in
      let small : j - i < 4 = omega (arith, o, b, n) in
      let is : get_or four (j - i) no_slot ≡ slot_of l j =
      get_or-take 4 (drop i s) (j - i) no_slot small ∙ get_or-drop i s (j - i) no_slot ∙ ap (λ (k : ℕ). get_or s k no_slot) at in
      let inside : j - i < length four = simp (length-take, length-drop) (omega (arith, slots_length l)) in
      by-test (passes sieve (slot_of l j))
      (λ y. clash (any_at no_slot (passes sieve) four (j - i) inside (ap (passes sieve) is ∙ y)) e)
      (λ y. y)),
)

-- a turn more, of the rows from one on
pub none_turn : (sieve : Sieve) (l : List ℕ) (from k : ℕ) (rows : List (List ℕ)) → map row_slot rows ≡ slots_of l → (turns : List (List (List ℕ)))
    → turns ≡ first_chunks 4 (length (take (length rows - from) (drop from rows)) / 4) (take (length rows - from) (drop from rows))
    → k < length (take (length rows - from) (drop from rows)) / 4
    → any_of (passes sieve) (map row_slot (get_or turns k [])) ≡ false
    → NonePass sieve l from (from + k * 4) → NonePass sieve l from (from + (k + 1) * 4)
none_turn sieve l from k rows h turns is b e w =
    let i : ℕ = from + k * 4 in
    let later : List (List ℕ) = take (length rows - from) (drop from rows) in
    let turn : get_or turns k [] ≡ take 4 (drop i rows) =
    ap (λ (t : List (List (List ℕ))). get_or t k []) is ∙ turn_is _ k later b
    ∙ ap (λ (t : List (List ℕ)). take 4 (drop (k * 4) t)) (take_rest rows from) ∙ ap (take 4) (drop-drop (k * 4) from rows) in
    let slots : map row_slot (get_or turns k []) ≡ take 4 (drop i (slots_of l)) =
    ap (map row_slot) turn ∙ sym (take-map row_slot 4 (drop i rows)) ∙ ap (take 4) (sym (drop-map row_slot i rows) ∙ ap (drop i) h) in
    let n : length later ≡ length rows - from = ap length (take_rest rows from) ∙ length-drop from rows in
    four_more sieve l from i _ (omega (arith, n, b, rows_length rows l h)) (omega arith) (ap (any_of (passes sieve)) (sym slots) ∙ e) w
