-- Slots and the words that hold them. Assumes nothing.
use Prim.Native.Nat.{ℕ, zero, suc, ◌+◌, ◌*◌, ◌/◌, ◌%◌, ◌≤◌, ◌<◌}
use mathlib.Core.Path.{◌≡◌, refl, ap, sym, ◌∙◌}
use mathlib.Core.List.{List, [], ◌∷◌, map}
use mathlib.Core.Bool.{Bool}
use native.Mathlib.Omega.{arith}
use lib.ListN.{length, get_or, set}
use lib.Seq.{sets, set-get_or}
use Rattle.laws.proofs.Walks.{map_first, map-start, map-length, map_read, map-turn, map-end}
use Rattle.machine.specs.Slots.{slots_of, words_of, with_slot, no_slot, slot_of, on_slot}
use Rattle.machine.specs.declared.Slot.{Slot}

pub slots_length : (l : List ℕ) → length (slots_of l) ≡ length l / 4
unfolding slots_of
slots_length [] = refl
slots_length (a ∷ []) = refl
slots_length (a ∷ b ∷ []) = refl
slots_length (a ∷ b ∷ c ∷ []) = refl
slots_length (a ∷ b ∷ c ∷ d ∷ r) = omega (arith, slots_length r)

-- whole slots and their words determine each other
pub words_back : (l : List ℕ) → length l % 4 ≡ 0 → words_of (slots_of l) ≡ l
unfolding slots_of words_of
words_back [] h = refl
words_back (a ∷ []) h = absurd (omega arith)
words_back (a ∷ b ∷ []) h = absurd (omega arith)
words_back (a ∷ b ∷ c ∷ []) h = absurd (omega arith)
words_back (a ∷ b ∷ c ∷ d ∷ r) h = ap (λ (t : List ℕ). a ∷ b ∷ c ∷ d ∷ t) (words_back r (omega arith))

pub slots-back : (s : List Slot) → slots_of (words_of s) ≡ s
unfolding slots_of words_of
slots-back [] = refl
slots-back (x ∷ r) = ap (λ (t : List Slot). x ∷ t) (slots-back r)

pub words-length : (s : List Slot) → length (words_of s) ≡ length s * 4
unfolding words_of
words-length [] = refl
words-length (x ∷ r) = omega (arith, words-length r)

-- ---- a slot read
-- the slot of the four words from k
abbrev pub slot_at : List ℕ → ℕ → Slot
slot_at l k = record { owner = get_or l k 0; page = get_or l (k + 1) 0; word = get_or l (k + 2) 0; flags = get_or l (k + 3) 0 }

-- slot i + 1 lies four words on
past : (i : ℕ) → suc i * 4 ≡ suc (suc (suc (suc (i * 4))))
past i = omega arith

four-on : (a b c d : ℕ) (r : List ℕ) (i : ℕ) → slot_at (a ∷ b ∷ c ∷ d ∷ r) (suc i * 4) ≡ slot_at r (i * 4)
four-on a b c d r i =
    let e1 : suc i * 4 + 1 ≡ suc (suc (suc (suc (i * 4 + 1)))) = omega arith in
    let e2 : suc i * 4 + 2 ≡ suc (suc (suc (suc (i * 4 + 2)))) = omega arith in
    let e3 : suc i * 4 + 3 ≡ suc (suc (suc (suc (i * 4 + 3)))) = omega arith in
    rw (e1, e2, e3, past i)

pub slot-get : (l : List ℕ) (i : ℕ) → i * 4 + 4 ≤ length l → slot_of l i ≡ slot_at l (i * 4)
unfolding slots_of
slot-get [] i h = absurd (omega arith)
slot-get (a ∷ []) i h = absurd (omega arith)
slot-get (a ∷ b ∷ []) i h = absurd (omega arith)
slot-get (a ∷ b ∷ c ∷ []) i h = absurd (omega arith)
slot-get (a ∷ b ∷ c ∷ d ∷ r) zero h = refl
slot-get (a ∷ b ∷ c ∷ d ∷ r) (suc i) h = slot-get r i (omega arith) ∙ sym (four-on a b c d r i)

-- a test of slot i, asked of its words
pub on_slot_lem : (p : Slot → Bool) (l : List ℕ) (i : ℕ) {b : Bool} → i * 4 + 4 ≤ length l → p (slot_at l (i * 4)) ≡ b → p (slot_of l i) ≡ b
on_slot_lem p l i h e = ap p (slot-get l i h) ∙ e

-- ---- a slot stored
-- four stores, as the code has them
pub four-stores : (l : List ℕ) (k a b c d : ℕ) → set (set (set (set l k a) (k + 1) b) (k + 2) c) (k + 3) d ≡ sets l k (a ∷ b ∷ c ∷ d ∷ [])
four-stores l k a b c d =
    let e1 : k + 1 ≡ suc k = omega arith in
    let e2 : k + 2 ≡ suc (suc k) = omega arith in
    let e3 : k + 3 ≡ suc (suc (suc k)) = omega arith in
    rw (e1, e2, e3)

-- one store, of the flags
pub flags-store : (l : List ℕ) (k d : ℕ) → set l (k + 3) d ≡ sets l k (get_or l k 0 ∷ get_or l (k + 1) 0 ∷ get_or l (k + 2) 0 ∷ d ∷ [])
flags-store l k d =
    sym (sym (four-stores l k (get_or l k 0) (get_or l (k + 1) 0) (get_or l (k + 2) 0) d)
    ∙ rw (set-get_or l k 0, set-get_or l (k + 1) 0, set-get_or l (k + 2) 0))

-- which is the store of the slot with those flags
pub flags-on : (f : Slot → Slot) (l : List ℕ) (i d : ℕ) → i * 4 + 4 ≤ length l
    → f (slot_at l (i * 4)) ≡ record { owner = get_or l (i * 4) 0; page = get_or l (i * 4 + 1) 0; word = get_or l (i * 4 + 2) 0; flags = d }
    → set l (i * 4 + 3) d ≡ on_slot f i l
flags-on f l i d h e = flags-store l (i * 4) d ∙ ap (λ (x : Slot). with_slot l i x) (sym (ap f (slot-get l i h) ∙ e))

-- a slot stored as it was
pub same-slot : (l : List ℕ) (i : ℕ) → i * 4 + 4 ≤ length l → l ≡ on_slot (λ (x : Slot). x) i l
same-slot l i h = sym (set-get_or l (i * 4 + 3) 0) ∙ flags-on (λ (x : Slot). x) l i (get_or l (i * 4 + 3) 0) h refl

pub store_words : (s : List Slot) (i : ℕ) (x : Slot) → with_slot (words_of s) i x ≡ words_of (set s i x)
unfolding words_of
store_words [] zero x = refl
store_words [] (suc i) x = refl
store_words (y ∷ r) zero x = refl
store_words (y ∷ r) (suc i) x =
    rw (past i) (ap (λ (t : List ℕ). y.owner ∷ y.page ∷ y.word ∷ y.flags ∷ t) (store_words r i x))

-- the same, of words that are whole slots
pub store-slots : (l : List ℕ) (i : ℕ) (x : Slot) → length l % 4 ≡ 0 → with_slot l i x ≡ words_of (set (slots_of l) i x)
store-slots l i x h = ap (λ (t : List ℕ). with_slot t i x) (sym (words_back l h)) ∙ store_words (slots_of l) i x

-- ---- a loop that replaces each slot by f of it
module _ (f : Slot → Slot) where
  -- the words with the first i slots replaced
  abbrev pub replaced : ℕ → List ℕ → List ℕ
  replaced i l = words_of (map_first f i (slots_of l))

  pub replace-start : (l : List ℕ) → length l % 4 ≡ 0 → l ≡ replaced 0 l
  replace-start l h = sym (ap words_of (map-start f no_slot (slots_of l)) ∙ words_back l h)

  pub replace-turn : (l : List ℕ) (i : ℕ) → i < length l / 4 → on_slot f i (replaced i l) ≡ replaced (i + 1) l
  replace-turn l i h =
      let m : List Slot = map_first f i (slots_of l) in
      let e : slots_of (words_of m) ≡ m = slots-back m in
      rw e (store_words m i (f (get_or m i no_slot)) ∙ ap words_of (map-turn f no_slot (slots_of l) i (omega (arith, slots_length l))))

  pub replace-end : (l : List ℕ) (i : ℕ) → length l / 4 ≤ i → replaced i l ≡ words_of (map f (slots_of l))
  replace-end l i h = ap words_of (map-end f no_slot (slots_of l) i (omega (arith, slots_length l)))

  pub replace-length : (l : List ℕ) (i : ℕ) → length l % 4 ≡ 0 → length (replaced i l) ≡ length l
  replace-length l i h = words-length (map_first f i (slots_of l)) ∙ omega (arith, map-length f no_slot (slots_of l) i, slots_length l)

  -- slot i is as it was
  pub replace-read : (l : List ℕ) (i : ℕ) → slot_of (replaced i l) i ≡ slot_of l i
  replace-read l i =
      ap (λ (s : List Slot). get_or s i no_slot) (slots-back (map_first f i (slots_of l))) ∙ map_read f no_slot (slots_of l) i
