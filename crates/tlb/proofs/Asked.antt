-- What a walk of the slots asks of one slot: the owner, bit 63, then the page against a prepared table. Assumes nothing.
use Prim.Native.Nat.{ℕ, ◌*◌, ◌/◌, ◌^◌, ◌≤◌, ◌<◌, max}
use mathlib.Core.Path.{◌≡◌, ap, sym, ◌∙◌}
use mathlib.Core.Bool.{true, false, and-false, or_comm}
use mathlib.Core.List.{List}
use native.Mathlib.Omega.{arith}
use native.Mathlib.Nat.{div-eq_of_lt, div-lt_iff_lt-mul, le_trans, le-max_left, le-max_right, max-eq_left}
use lib.Dec.{eqb, ltb}
use lib.Pow.{pow_pos}
use lib.Bits.{bit_xor, and_le_l, and_le_r, xor_add_and, xor_comm, xor_self, xor_shr}
use lib.ListN.{get_or, set, replicate, get_or-replicate}
use lib.Seq.{get_or-set_other}
use borrow.Author.Tests.{eqb-true, eqb-false, eq-eqb, ne_eqb, ltb-true, ltb-false}
use Rattle.laws.proofs.Bools.{by-test}
use Rattle.machine.specs.declared.Key.{Key}
use Rattle.machine.specs.declared.Slot.{Slot}
use Rattle.machine.specs.Pages.{page_shift, page_size, page_start}
use Rattle.machine.proofs.Pages.{start-block}
use Rattle.machine.specs.Slots.{is_live, size_code, holds, key_owner, key_address, KeyFits, is_compared, answers_to}
use Rattle.machine.specs.Insertion.{overlaps}
use Rattle.machine.specs.Sound.{slot_sound}
use Rattle.machine.proofs.Sound.{owner-agrees}
use Rattle.tlb.specs.Tables.{by_code, starts_of, spans_of, compared_by, answers_by}

-- a table at a size code
by_code_lem : (other : ℕ) (f : ℕ → ℕ) (code : ℕ) → other ≡ f 0 → code < 16 → get_or (by_code other f) code 0 ≡ f (page_shift code)
unfolding page_shift
by_code_lem other f code z h =
    let l0 : List ℕ = set (replicate 16 other) 0 (f 13) in
    let l1 : List ℕ = set l0 1 (f 16) in
    let l3 : List ℕ = set l1 3 (f 22) in
    by-test (eqb code 5)
    (λ e5. rw (eqb-true code 5 e5))
    (λ e5. get_or-set_other l3 5 code (f 28) 0 (eqb-false code 5 e5) ∙ by-test (eqb code 3)
    (λ e3. rw (eqb-true code 3 e3))
    (λ e3. get_or-set_other l1 3 code (f 22) 0 (eqb-false code 3 e3) ∙ by-test (eqb code 1)
    (λ e1. rw (eqb-true code 1 e1))
    (λ e1. get_or-set_other l0 1 code (f 16) 0 (eqb-false code 1 e1) ∙ by-test (eqb code 0)
    (λ e0. rw (eqb-true code 0 e0))
    (λ e0. get_or-set_other (replicate 16 other) 0 code (f 13) 0 (eqb-false code 0 e0) ∙ get_or-replicate 16 code other 0 h ∙ rw (e0, e1, e3, e5) z))))

start-at : (a code : ℕ) → code < 16 → get_or (starts_of a) code 0 ≡ page_start code a
unfolding starts_of
start-at a code h = by_code_lem a (λ k. a / 2 ^ k * 2 ^ k) code (omega arith) h

pub span-at : (x code : ℕ) → code < 16 → get_or (spans_of (page_size x)) code 0 ≡ max (page_size x) (page_size code)
unfolding spans_of
span-at x code h = by_code_lem (page_size x) (λ k. max (page_size x) (2 ^ k)) code (sym (max-eq_left (pow_pos (page_shift x)))) h

-- the page of x against the prepared starts
page-asked : (x : Slot) (a : ℕ) → holds x a ≡ eqb (get_or (starts_of a) (size_code x) 0) x.page
page-asked x a = ap (λ (n : ℕ). eqb n x.page) (sym (start-at a (size_code x) (omega arith)))

-- on a sound slot: to be compared by the owner word is to be compared, and to answer by the prepared starts is to answer
module _ (key : Key) (f : KeyFits key) (x : Slot) (h : slot_sound x ≡ true) where
  pub compared-asked : compared_by (key_owner key) x ≡ is_compared key x
  unfolding compared_by is_compared
  compared-asked = rw (owner-agrees key x f h)

  pub asked : answers_by (key_owner key) (starts_of (key_address key)) x ≡ answers_to key x
  unfolding answers_by answers_to
  asked = rw (compared-asked, page-asked x (key_address key))

-- ---- whether x overlaps y
xor-zero : (a b : ℕ) → bit_xor a b ≡ 0 → a ≡ b
xor-zero a b h = omega (arith, xor_add_and a b, and_le_l a b, and_le_r a b)

-- numbers of one block of 2 ^ k have a xor below 2 ^ k
pub near : (a b k : ℕ) → a / 2 ^ k ≡ b / 2 ^ k → bit_xor a b < 2 ^ k
near a b k e =
    let z : bit_xor a b / 2 ^ k ≡ 0 = xor_shr a b k ∙ ap (λ (n : ℕ). bit_xor n (b / 2 ^ k)) e ∙ xor_self (b / 2 ^ k) in
    let p : bit_xor a b < 1 * 2 ^ k = (div-lt_iff_lt-mul {y = 1} (pow_pos k)).0 (omega arith) in
    omega arith

-- and the reverse
one_block : (a b k : ℕ) → bit_xor a b < 2 ^ k → a / 2 ^ k ≡ b / 2 ^ k
one_block a b k h = xor-zero (a / 2 ^ k) (b / 2 ^ k) (sym (xor_shr a b k) ∙ div-eq_of_lt h)

-- a page holds no address whose xor with its start is its size or more
far-holds : (x : Slot) (a : ℕ) → page_size (size_code x) ≤ bit_xor x.page a → holds x a ≡ false
far-holds x a h =
    ne_eqb _ _ (λ (e : page_start (size_code x) a ≡ x.page).
    omega (arith, near x.page a (page_shift (size_code x)) (start-block (size_code x) x.page a e)))

-- starts whose xor is the larger page size or more lie in no common page
pub over-far : (x y : Slot) → get_or (spans_of (page_size (size_code x))) (size_code y) 0 ≤ bit_xor x.page y.page → overlaps x y ≡ false
unfolding overlaps
over-far x y h =
    let m : max (page_size (size_code x)) (page_size (size_code y)) ≤ bit_xor x.page y.page = rw (span-at (size_code x) (size_code y) (omega arith)) at h in
    let p = far-holds x y.page (le_trans (le-max_left _ _) m) in
    let q = far-holds y x.page (rw (xor_comm y.page x.page) (le_trans (le-max_right _ _) m)) in
    rw (p, q, and-false (eqb x.owner y.owner), and-false (is_live y)) (and-false (is_live x))

-- a page at a page start holds an address whose xor with it is below its size
near-holds : (x : Slot) (a : ℕ) → page_start (size_code x) x.page ≡ x.page → bit_xor x.page a < page_size (size_code x) → holds x a ≡ true
near-holds x a s h = eq-eqb _ x.page (ap (λ (n : ℕ). n * page_size (size_code x)) (sym (one_block x.page a (page_shift (size_code x)) h)) ∙ s)

-- ---- by the owner and by bit 63 of any slots; by the xor of the starts of slots whose pages are at page starts
module _ (x y : Slot) where
  pub over-owner : (y.owner ≡ x.owner → ⊥) → overlaps x y ≡ false
  unfolding overlaps
  over-owner h = rw (ne_eqb x.owner y.owner (λ e. h (sym e)), and-false (is_live y)) (and-false (is_live x))

  pub over-empty : (y.word / 2 ^ 63 ≡ 1 → ⊥) → overlaps x y ≡ false
  unfolding overlaps
  over-empty h = rw (ne_eqb (y.word / 2 ^ 63) 1 h) (and-false (is_live x))

  pub over-near : is_live x ≡ true → y.word / 2 ^ 63 ≡ 1 → y.owner ≡ x.owner
      → page_start (size_code x) x.page ≡ x.page → page_start (size_code y) y.page ≡ y.page
      → bit_xor x.page y.page < get_or (spans_of (page_size (size_code x))) (size_code y) 0 → overlaps x y ≡ true
  unfolding overlaps
  over-near l v o p q h =
      let d : ℕ = bit_xor x.page y.page in
      let m : d < max (page_size (size_code x)) (page_size (size_code y)) = rw (span-at (size_code x) (size_code y) (omega arith)) at h in
      rw (l, eq-eqb (y.word / 2 ^ 63) 1 v, eq-eqb x.owner y.owner (sym o))
      (by-test (ltb d (page_size (size_code x)))
      (λ e. rw (near-holds x y.page p (ltb-true d (page_size (size_code x)) e)))
      (λ e.
      let n : bit_xor y.page x.page < page_size (size_code y) = rw (xor_comm y.page x.page) (omega (arith, ltb-false d _ e)) in
      rw (near-holds y x.page q n) (or_comm (holds x y.page) true)))
