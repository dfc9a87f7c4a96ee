-- Slots that overlap share a bucket, so a slot that has its bucket for itself overlaps none. Assumes nothing.
use Rattle.std.proofs.Common.{◌≡◌, ℕ, zero, suc, ◌+◌, ◌-◌, ◌*◌, ◌/◌, ◌%◌, ◌^◌, ◌<◌, ◌≤◌, Bool, true, false, ◌||◌, eqb, ltb, List, [], ◌∷◌, length, get_or, drop, set, sym, refl, ap, ◌∙◌, le_trans, le_refl, arith, get_or-set_other, get_or-set_same, ltb-true, eq-eqb, ne_eqb, eqb-true}
use mathlib.Core.Bool.{and-false}
use native.Mathlib.Nat.{le-max_left, le-max_right}
use lib.Pow.{split}
use lib.Bits.{bit_and, and_mask}
use borrow.Author.Tests.{eqb-false}
use Rattle.laws.specs.Tests.{any_of}
use Rattle.laws.proofs.Bools.{by-test, both_ways, clash, and_left, and_right, or_left, or_right, or-other}
use Rattle.laws.proofs.Walks.{any-pass, any-end}
use Rattle.machine.specs.Pages.{page_shift}
use Rattle.machine.specs.Slots.{no_slot, is_live, size_code, holds}
use Rattle.machine.specs.Insertion.{overlaps}
use Rattle.machine.specs.declared.Slot.{Slot}
use Rattle.machine.proofs.Pages.{shift_small, coarser, start-block}
use Rattle.tlb_sound.specs.Buckets.{largest_code, block_shift, bucket_of, in_bucket}

ruleset conj = (and_left, and_right)

-- ---- the largest size code
largest-get : (s : List Slot) (i : ℕ) → i < length s → size_code (get_or s i no_slot) ≤ largest_code s
unfolding largest_code
largest-get [] i h = absurd (omega arith)
largest-get (x ∷ r) zero h = le-max_left _ _
largest-get (x ∷ r) (suc i) h = le_trans (largest-get r i (omega arith)) (le-max_right _ _)

largest-drop : (s : List Slot) (i : ℕ) → largest_code (drop i s) ≤ largest_code s
unfolding largest_code
largest-drop s zero = le_refl _
largest-drop [] (suc i) = le_refl _
largest-drop (x ∷ r) (suc i) = le_trans (largest-drop r i) (le-max_right _ _)

-- ---- a shift for all size codes up to m
shift-at_most : (code k : ℕ) → (code ≡ 0 → 13 ≤ k) → (code ≡ 1 → 16 ≤ k) → (code ≡ 3 → 22 ≤ k) → (code ≡ 5 → 28 ≤ k) → page_shift code ≤ k
unfolding page_shift
shift-at_most code k p q r s =
    by-test (eqb code 0) (λ e. rw e (p (eqb-true code 0 e))) (λ e0.
    by-test (eqb code 1) (λ e. rw (e0, e) (q (eqb-true code 1 e))) (λ e1.
    by-test (eqb code 3) (λ e. rw (e0, e1, e) (r (eqb-true code 3 e))) (λ e3.
    by-test (eqb code 5) (λ e. rw (e0, e1, e3, e) (s (eqb-true code 5 e))) (λ e5. rw (e0, e1, e3, e5) (omega arith)))))

pub block-wide : (m code : ℕ) → code ≤ m → page_shift code ≤ block_shift m
unfolding block_shift
block-wide m code h =
    by-test (ltb m 1)
    (λ b. let l = ltb-true m 1 b in rw b (shift-at_most code 13 (λ e. omega arith) (λ e. omega arith) (λ e. omega arith) (λ e. omega arith))) (λ b1.
    by-test (ltb m 3)
    (λ b. let l = ltb-true m 3 b in rw (b1, b) (shift-at_most code 16 (λ e. omega arith) (λ e. omega arith) (λ e. omega arith) (λ e. omega arith))) (λ b3.
    by-test (ltb m 5)
    (λ b. let l = ltb-true m 5 b in rw (b1, b3, b) (shift-at_most code 22 (λ e. omega arith) (λ e. omega arith) (λ e. omega arith) (λ e. omega arith)))
    (λ b5. rw (b1, b3, b5) (shift_small code))))

pub block-small : (m : ℕ) → block_shift m ≤ 28
unfolding block_shift
block-small m =
    by-test (ltb m 1) (λ e. rw e (omega arith)) (λ e1.
    by-test (ltb m 3) (λ e. rw (e1, e) (omega arith)) (λ e3.
    by-test (ltb m 5) (λ e. rw (e1, e3, e) (omega arith)) (λ e5. rw (e1, e3, e5) (omega arith))))

-- ---- a page start: its low bits are zero
pub masked : (a k : ℕ) → eqb (bit_and a (2 ^ k - 1)) 0 ≡ eqb (a / 2 ^ k * 2 ^ k) a
masked a k =
    both_ways (eqb (bit_and a (2 ^ k - 1)) 0) (eqb (a / 2 ^ k * 2 ^ k) a)
    (λ h.
    let z : a % 2 ^ k ≡ 0 = sym (and_mask a k) ∙ eqb-true (bit_and a (2 ^ k - 1)) 0 h in
    eq-eqb (a / 2 ^ k * 2 ^ k) a (omega (arith, split a k)))
    (λ h.
    let z : a / 2 ^ k * 2 ^ k ≡ a = eqb-true (a / 2 ^ k * 2 ^ k) a h in
    let m : a % 2 ^ k ≡ 0 = omega (arith, split a k) in
    eq-eqb (bit_and a (2 ^ k - 1)) 0 (and_mask a k ∙ m))

-- ---- when two slots overlap
-- an empty slot overlaps none
pub empty-overlaps : (x : Slot) (s : List Slot) → is_live x ≡ false → any_of (overlaps x) s ≡ false
unfolding any_of overlaps
empty-overlaps x [] h = refl
empty-overlaps x (y ∷ r) h = rw h (empty-overlaps x r h)

module _ (x y : Slot) (k : ℕ) (p : page_shift (size_code x) ≤ k) (q : page_shift (size_code y) ≤ k) (h : overlaps x y ≡ true) where
  -- they share a block of 2 ^ k, where k is at least both page shifts
  overlap-block : x.page / 2 ^ k ≡ y.page / 2 ^ k
  unfolding overlaps
  overlap-block =
      let s : (holds x y.page || holds y x.page) ≡ true = search conj in
      by-test (holds x y.page)
      (λ e. coarser x.page y.page _ k p (start-block (size_code x) x.page y.page (eqb-true _ x.page e)))
      (λ e. sym (coarser y.page x.page _ k q (start-block (size_code y) y.page x.page (eqb-true _ y.page (or-other _ _ s e)))))

  overlap-bucket : in_bucket k (bucket_of k x.owner x.page) y ≡ true
  unfolding in_bucket bucket_of overlaps
  overlap-bucket =
      let l : is_live y ≡ true = search conj in
      let o : eqb x.owner y.owner ≡ true = search conj in
      rw (l, overlap-block, eqb-true x.owner y.owner o) (eq-eqb (bucket_of k y.owner y.page) _ refl)

-- the shift k is at least that of each size code up to m
abbrev pub Wide : ℕ → ℕ → Type 0
Wide m k = (code : ℕ) → code ≤ m → page_shift code ≤ k

-- none of the slots shares the bucket: none overlaps x
bucket-alone : (x : Slot) (s : List Slot) (m k : ℕ) → Wide m k → size_code x ≤ m → largest_code s ≤ m
    → any_of (in_bucket k (bucket_of k x.owner x.page)) s ≡ false → any_of (overlaps x) s ≡ false
unfolding any_of largest_code
bucket-alone x [] m k w p q h = refl
bucket-alone x (y ∷ r) m k w p q h =
    let b : Bool = in_bucket k (bucket_of k x.owner x.page) y in
    by-test (overlaps x y)
    (λ e. clash (overlap-bucket x y k (w _ p) (w _ (le_trans (le-max_left _ _) q)) e) (or_left b _ h))
    (λ e. rw e (bucket-alone x r m k w p (le_trans (le-max_right (size_code y) _) q) (or_right b _ h)))

pub bucket-small : (k owner page : ℕ) → bucket_of k owner page < 1024
unfolding bucket_of
bucket-small k owner page = omega arith

-- ---- marked buckets
-- a bucket that does not hold the mark holds none of the slots
abbrev pub Marked : ℕ → List ℕ → ℕ → List Slot → Type 0
Marked k seen mark s = (b : ℕ) → eqb (get_or seen b 0) mark ≡ false → any_of (in_bucket k b) s ≡ false

pub none-marked : (k : ℕ) (seen : List ℕ) (mark : ℕ) (s : List Slot) (j : ℕ) → length s ≤ j → Marked k seen mark (drop j s)
none-marked k seen mark s j h b e = any-end no_slot s j (in_bucket k b) h

module _ (k : ℕ) (seen : List ℕ) (mark : ℕ) (s : List Slot) (j : ℕ) (h : j < length s) (later : Marked k seen mark (drop (j + 1) s)) where
  -- slot j is not live: nothing to mark
  pub mark-empty : is_live (get_or s j no_slot) ≡ false → Marked k seen mark (drop j s)
  unfolding in_bucket
  mark-empty l b e = any-pass no_slot s j (in_bucket k b) h (rw l) ∙ later b e

  -- slot j's bucket is marked
  pub mark-live : (b₀ : ℕ) → b₀ ≡ bucket_of k (get_or s j no_slot).owner (get_or s j no_slot).page → b₀ < length seen → Marked k (set seen b₀ mark) mark (drop j s)
  unfolding in_bucket
  mark-live b₀ q m b e =
      by-test (eqb b b₀)
      (λ t. clash (eq-eqb _ mark (get_or-set_same seen b₀ mark 0 m)) (rw (eqb-true b b₀ t) at e))
      (λ t.
      let n : b ≡ b₀ → ⊥ = eqb-false b b₀ t in
      any-pass no_slot s j (in_bucket k b) h (rw (ne_eqb _ b (λ g. n (sym g ∙ sym q))) (and-false (is_live (get_or s j no_slot))))
      ∙ later b (ap (λ v. eqb v mark) (sym (get_or-set_other seen b₀ b mark 0 n)) ∙ e))

  -- slot j's bucket was not marked: it overlaps no later slot
  pub alone : (m : ℕ) → Wide m k → largest_code s ≤ m → eqb (get_or seen (bucket_of k (get_or s j no_slot).owner (get_or s j no_slot).page) 0) mark ≡ false
      → any_of (overlaps (get_or s j no_slot)) (drop (j + 1) s) ≡ false
  alone m w p e =
      bucket-alone (get_or s j no_slot) (drop (j + 1) s) m k w (le_trans (largest-get s j h) p) (le_trans (largest-drop s (j + 1)) p) (later _ e)
