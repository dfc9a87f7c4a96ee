-- Laws of the miss record: the words after one more lookup, the misses and lookups kept, and that sound records are those of lists of lookups.
-- Assumes nothing.
use Prim.Native.Nat.{ℕ, zero, suc, ◌+◌, ◌*◌, ◌-◌, ◌/◌, ◌%◌, ◌^◌, ◌≤◌, ◌<◌, min}
use mathlib.Core.Path.{◌≡◌, refl, ap, sym, ◌∙◌}
use mathlib.Core.Bool.{Bool, true, false, cond}
use mathlib.Core.List.{List, [], ◌∷◌, ◌++◌, append-nil, append_assoc}
use native.Mathlib.Omega.{arith}
use native.Mathlib.Nat.{zero-add, suc-add, mod-one, zero-mod, lt_of_lt_of_le, pow-suc, mod-eq_of_lt, div-one}
use native.Mathlib.Numerals.{add-one, one-add}
use lib.Dec.{eqb, ltb, leb}
use lib.Count.{ones, ones_step}
use lib.ListN.{length, get_or, take, drop, replicate, length-append, length-take, length-drop, drop_of_length-le, take-append-drop, get_or-append}
use lib.Pow.{mod-pow-add, pow_mono, shr-shr}
use lib.Seq.{get_or_at, take_at, drop_at, ext_get_or, take-nil, drop-nil, take-take, take-append-add, length-take-le, slice_empty, take-add, drop-drop}
use borrow.Author.Tests.{eqb-true, eqb-false, leb-true, leb-false, ltb-true, ltb-false, le-leb, lt-leb, lt-ltb, le-ltb}
use Rattle.laws.specs.Tests.{tick, count}
use Rattle.laws.specs.Passing.{how_many}
use Rattle.laws.proofs.Bools.{by-test, and_both, and_left, and_right}
use Rattle.laws.proofs.Counts.{count-append}
use Rattle.laws.proofs.Finds.{how_many_lem}
use Rattle.laws.proofs.Belows.{below_all, below_at}
use Rattle.machine.specs.Record.{pushed, kept, ones_of, newest_bits, record_sound}
use Rattle.machine.specs.Places.{row, outcomes_word, newest_part, newest_word, older_word, seen_word}

pub row-length : (f : ℕ → ℕ) (n : ℕ) → length (row f n) ≡ n
unfolding row
row-length f zero = refl
row-length f (suc n) = length-append (row f n) _ ∙ omega (arith, row-length f n)

pub row_at : (f : ℕ → ℕ) (n i : ℕ) → i < n → get_or (row f n) i 0 ≡ f i
unfolding row
row_at f zero i h = absurd (omega arith)
row_at f (suc n) i h = by-test (eqb i n)
    (λ e. rw (eqb-true i n e) (get_or_at (row f n) (f n) [] 0 n (row-length f n)))
    (λ e. let l : i < n = omega (arith, eqb-false i n e) in get_or-append (row f n) (f n ∷ []) 0 i (rw (row-length f n) l) ∙ row_at f n i l)

-- ---- how many lookups the newest word has, of n
abbrev newest_of : ℕ → ℕ
newest_of n = n - (n - 1) / 64 * 64

seen-whole : (m : List Bool) → seen_word m % 64 ≡ length m % 64
seen-whole m = by-test (leb (length m) 1024) (λ e. rw e) (λ e. rw e (omega (arith, leb-false (length m) 1024 e)))

whole : (m : List Bool) → eqb (seen_word m % 64) 0 ≡ true → length m % 64 ≡ 0
whole m h = sym (seen-whole m) ∙ eqb-true _ 0 h

broken : (m : List Bool) → eqb (seen_word m % 64) 0 ≡ false → length m % 64 ≡ 0 → ⊥
broken m h e = eqb-false _ 0 h (seen-whole m ∙ e)

newest-suc : (n : ℕ) → (n % 64 ≡ 0 → ⊥) → newest_of (suc n) ≡ suc (newest_of n)
newest-suc n h = omega arith

newest-one : (n : ℕ) → n % 64 ≡ 0 → newest_of (suc n) ≡ 1
newest-one n h = omega arith

newest-full : (n : ℕ) → n % 64 ≡ 0 → 0 < n → newest_of n ≡ 64
newest-full n h p = omega arith

pub seen_more : (m : List Bool) (b : Bool) → eqb (seen_word m % 64) 0 ≡ false → seen_word m + 1 ≡ seen_word (b ∷ m)
seen_more m b h =
    let z = broken m h in
    by-test (leb (length m) 1024)
    (λ e. rw (e, le-leb (suc (length m)) 1024 (omega (arith, leb-true (length m) 1024 e))) (omega arith))
    (λ e. let l = leb-false (length m) 1024 e in rw (e, lt-leb (suc (length m)) 1024 (omega arith)) (omega arith))

pub seen_turned : (m : List Bool) (b : Bool) → eqb (seen_word m % 64) 0 ≡ true
    → cond (ltb 1024 (seen_word m)) (seen_word m - 64) (seen_word m) + 1 ≡ seen_word (b ∷ m)
seen_turned m b h =
    let z = whole m h in
    by-test (leb (length m) 1024)
    (λ e.
    let l = leb-true (length m) 1024 e in
    rw (e, le-ltb 1024 (length m) l) (by-test (leb (suc (length m)) 1024)
    (λ f. rw f (omega arith))
    (λ f. rw f (omega (arith, leb-false (suc (length m)) 1024 f)))))
    (λ e.
    let l = leb-false (length m) 1024 e in
    rw (e, lt-ltb 1024 (1024 + newest_part m) (omega arith), lt-leb (suc (length m)) 1024 (omega arith)) (omega arith))

-- ---- words and their bits
bit-small : (b : Bool) → tick b < 2
bit-small true = omega arith
bit-small false = omega arith

outcomes-half : (x : Bool) (xs : List Bool) → (outcomes_word (x ∷ xs) / 2 ≡ outcomes_word xs) × (outcomes_word (x ∷ xs) % 2 ≡ tick x)
unfolding outcomes_word
outcomes-half x xs = omega (arith, bit-small x)

-- the lowest bit, and k more
low-suc : (k w : ℕ) → w % 2 ^ suc k ≡ w / 2 % 2 ^ k * 2 + w % 2
low-suc k w = ap (λ (n : ℕ). w % 2 ^ n) (sym (add-one k)) ∙ mod-pow-add w k 1

outcomes-low : (k : ℕ) (xs : List Bool) → outcomes_word xs % 2 ^ k ≡ outcomes_word (take k xs)
unfolding outcomes_word
outcomes-low zero xs = mod-one _
outcomes-low (suc k) [] = zero-mod _
outcomes-low (suc k) (x ∷ xs) =
    let h = outcomes-half x xs in
    low-suc k _ ∙ rw (h.0, h.1, outcomes-low k xs) (omega arith)

pushed-outcomes : (xs : List Bool) (b : Bool) → pushed (outcomes_word xs) (tick b) ≡ outcomes_word (b ∷ take 63 xs)
unfolding pushed outcomes_word
pushed-outcomes xs b = rw (outcomes-low 63 xs) (omega arith)

module _ {A : Type 0} where
  drop-take : (k m : ℕ) (l : List A) → drop k (take (k + m) l) ≡ take m (drop k l)
  drop-take zero m l = rw zero-add
  drop-take (suc k) m [] = rw suc-add (sym (take-nil m))
  drop-take (suc k) m (x ∷ l) = rw suc-add (drop-take k m l)

-- of 64 outcomes in a newest word that is not full, the one driven out is the 1,024th of all
pushed-out : (k : ℕ) (m : List Bool) → k < 64 → k ≤ length m
    → take 63 (take k m ++ drop (k + 960) (take 1024 m)) ≡ take k m ++ drop (k + 960) (take 1023 m)
pushed-out k m h l =
    let e : 63 ≡ length (take k m) + (63 - k) = omega (arith, length-take-le k m l) in
    let f : k + 960 + (63 - k) ≡ 1023 = omega arith in
    ap (λ n. take n (take k m ++ drop (k + 960) (take 1024 m))) e ∙ take-append-add (take k m) _ (63 - k)
    ∙ rw (← (drop-take (k + 960) (63 - k) (take 1024 m)), f, take-take 1023 1024 m (omega arith))

pub newest-more : (m : List Bool) (b : Bool) → eqb (seen_word m % 64) 0 ≡ false → pushed (newest_word m) (tick b) ≡ newest_word (b ∷ m)
newest-more m b h =
    let z = broken m h in
    pushed-outcomes _ b ∙ rw (newest-suc (length m) z, suc-add, pushed-out (newest_part m) m (omega arith) (omega arith))

pub older-same : (m : List Bool) (b : Bool) → eqb (seen_word m % 64) 0 ≡ false → (j : ℕ) → older_word m j ≡ older_word (b ∷ m) j
older-same m b h j = rw (newest-suc (length m) (broken m h), suc-add)

pub newest-turned : (m : List Bool) (b : Bool) → eqb (seen_word m % 64) 0 ≡ true → pushed (older_word m 14) (tick b) ≡ newest_word (b ∷ m)
newest-turned [] b h = pushed-outcomes [] b
newest-turned (x ∷ m) b h =
    let l : List Bool = x ∷ m in
    let z = whole l h in
    pushed-outcomes _ b
    ∙ rw (newest-one (length l) z, newest-full (length l) z (omega arith), take-take 63 64 (drop 960 l) (omega arith), ← (drop-take 960 63 l))

pub older-first : (m : List Bool) (b : Bool) → eqb (seen_word m % 64) 0 ≡ true → newest_word m ≡ older_word (b ∷ m) 0
older-first [] b h = refl
older-first (x ∷ m) b h =
    let z = whole (x ∷ m) h in
    rw (newest-one (length (x ∷ m)) z, newest-full (length (x ∷ m)) z (omega arith), slice_empty 1023 m, append-nil (take 63 m))

pub older-next : (m : List Bool) (b : Bool) → eqb (seen_word m % 64) 0 ≡ true → (j : ℕ) → older_word m j ≡ older_word (b ∷ m) (suc j)
older-next m b h j =
    let z = whole m h in
    let e : 1 + 64 * suc j ≡ suc (64 + 64 * j) = omega arith in
    rw (newest-one (length m) z, e) (next m z)
  where
    next : (l : List Bool) → length l % 64 ≡ 0 → older_word l j ≡ outcomes_word (take 64 (drop (64 + 64 * j) l))
    next [] z = rw (drop-nil (0 + 64 * j), drop-nil (64 + 64 * j))
    next (x ∷ l) z = rw (newest-full (length (x ∷ l)) z (omega arith))

-- ---- the rate
pub record-kept : (m : List Bool) → kept (seen_word m) ≡ length (take 1024 m)
record-kept m = by-test (leb (length m) 1024)
    (λ e. rw e (omega (arith, leb-true (length m) 1024 e, length-take 1024 m)))
    (λ e. rw e (omega (arith, leb-false (length m) 1024 e, length-take 1024 m)))

abbrev misses_in : List Bool → ℕ
misses_in = count (λ missed. missed)

misses-append : (a b : List Bool) → misses_in (a ++ b) ≡ misses_in a + misses_in b
misses-append = count-append (λ missed. missed)

ones_none : ones (outcomes_word []) ≡ 0
unfolding ones outcomes_word
ones_none = refl

ones-misses : (xs : List Bool) → ones (outcomes_word xs) ≡ misses_in xs
unfolding count
ones-misses [] = ones_none
ones-misses (x ∷ xs) = let h = outcomes-half x xs in ones_step _ ∙ rw (h.0, h.1, ones-misses xs)

-- the misses in the first i older words
older-misses : (m : List Bool) (i : ℕ) → i ≤ 15 → ones_of (row (older_word m) 15) i ≡ misses_in (take (64 * i) (drop (newest_part m) m))
unfolding ones_of count
older-misses m zero h = refl
older-misses m (suc i) h =
    let d : List Bool = drop (newest_part m) m in
    let e : 64 * suc i ≡ 64 * i + 64 = omega arith in
    rw (row_at (older_word m) 15 i h, older-misses m i (omega arith), ones-misses (take 64 (drop (newest_part m + 64 * i) m)), e, take-add (64 * i) 64 d)
    (rw (misses-append (take (64 * i) d) (take 64 (drop (64 * i) d)), drop-drop (64 * i) (newest_part m) m))

pub record-misses : (m : List Bool) → ones (newest_word m) + ones_of (row (older_word m) 15) 15 ≡ how_many (λ missed. missed) (take 1024 m)
record-misses m =
    let k : ℕ = newest_part m in
    let a : List Bool = take k m in
    let o : List Bool = take 960 (drop k m) in
    let t : List Bool = drop (k + 960) (take 1024 m) in
    let split : take 1024 m ≡ (a ++ o) ++ t =
    sym (take-append-drop (k + 960) (take 1024 m)) ∙ ap (λ (l : List Bool). l ++ t) (take-take (k + 960) 1024 m (omega arith) ∙ take-add k 960 m) in
    rw (how_many_lem (λ missed. missed) (take 1024 m), ones-misses (a ++ t), older-misses m 15 (omega arith))
    (omega (arith, ap misses_in split, misses-append a t, misses-append (a ++ o) t, misses-append a o))

-- ---- soundness
outcomes-lt : (xs : List Bool) → outcomes_word xs < 2 ^ length xs
unfolding outcomes_word
outcomes-lt [] = omega arith
outcomes-lt (x ∷ xs) = omega (arith, bit-small x, outcomes-lt xs, pow-suc 2 (length xs))

abbrev newest_list : List Bool → List Bool
newest_list m = take (newest_part m) m ++ drop (newest_part m + 960) (take 1024 m)

newest-length : (m : List Bool) → length (newest_list m) ≡ newest_bits (seen_word m)
newest-length m =
    let k : ℕ = newest_part m in
    let l : length (newest_list m) ≡ k + (min 1024 (length m) - (k + 960)) =
    length-append (take k m) _ ∙ omega (arith, length-take-le k m (omega arith), length-drop (k + 960) (take 1024 m), length-take 1024 m) in
    l ∙ by-test (leb (length m) 1024)
    (λ e. let h = leb-true (length m) 1024 e in rw (e, le-ltb 1024 (length m) h) (omega arith))
    (λ e. let h = leb-false (length m) 1024 e in rw (e, lt-ltb 1024 (1024 + k) (omega arith)) (omega arith))

older-lt : (m : List Bool) (j : ℕ) → j < 15 → ltb (older_word m j) (cond (ltb (64 * (j + 1)) (seen_word m)) (2 ^ 64) 1) ≡ true
unfolding outcomes_word
older-lt m j h =
    let k : ℕ = newest_part m in
    let l : List Bool = take 64 (drop (k + 64 * j) m) in
    by-test (ltb (64 * (j + 1)) (seen_word m))
    (λ e.
    let s : length l ≤ 64 = omega (arith, length-take 64 (drop (k + 64 * j) m)) in
    rw e (lt-ltb (outcomes_word l) (2 ^ 64) (lt_of_lt_of_le (outcomes-lt l) (pow_mono s))))
    (λ e. rw (e, drop_of_length-le m {i = k + 64 * j} (short (ltb-false _ _ e))))
  where
    short : seen_word m ≤ 64 * (j + 1) → length m ≤ newest_part m + 64 * j
    short f = by-test (leb (length m) 1024)
        (λ e. let g : length m ≤ 64 * (j + 1) = rw e at f in omega arith)
        (λ e. let g : 1024 + newest_part m ≤ 64 * (j + 1) = rw e at f in omega arith)

pub record-good : (m : List Bool) → record_sound (seen_word m) (newest_word m) (row (older_word m) 15) ≡ true
unfolding record_sound
record-good m =
    and_both _ _ small (and_both _ _ (lt-ltb _ _ (rw (newest-length m) at (outcomes-lt (newest_list m))))
    (below_all _ 15 (λ j h. rw (row_at (older_word m) 15 j h) (older-lt m j h))))
  where
    small : ltb (seen_word m) 1089 ≡ true
    small = lt-ltb (seen_word m) 1089 (by-test (leb (length m) 1024)
        (λ e. rw e (omega (arith, leb-true (length m) 1024 e)))
        (λ e. rw e (omega arith)))

-- ---- a list of lookups for a sound record
-- the lowest k bits of a word
unfoldable pub bits_of : ℕ → ℕ → List Bool
bits_of zero w = []
bits_of (suc k) w = eqb (w % 2) 1 ∷ bits_of k (w / 2)

unfoldable pub all_bits : List ℕ → List Bool
all_bits [] = []
all_bits (w ∷ r) = bits_of 64 w ++ all_bits r

-- as many lookups as a record counts; it keeps none of the last 64
unfoldable pub longest : ℕ → ℕ → List ℕ → List Bool
longest k word old = bits_of k word ++ (all_bits old ++ (bits_of (64 - k) (word / 2 ^ k) ++ replicate 64 false))

unfoldable pub list_for : ℕ → ℕ → List ℕ → List Bool
list_for n word old = take n (longest (newest_of n) word old)

bits-length : (k w : ℕ) → length (bits_of k w) ≡ k
unfolding bits_of
bits-length zero w = refl
bits-length (suc k) w = ap suc (bits-length k (w / 2))

bit-back : (w : ℕ) → tick (eqb (w % 2) 1) ≡ w % 2
bit-back w = by-test (eqb (w % 2) 1) (λ e. rw e (sym (eqb-true _ 1 e))) (λ e. rw e (omega (arith, eqb-false (w % 2) 1 e)))

bits-outcomes : (k w : ℕ) → outcomes_word (bits_of k w) ≡ w % 2 ^ k
unfolding outcomes_word bits_of
bits-outcomes zero w = sym (mod-one w)
bits-outcomes (suc k) w = rw (bits-outcomes k (w / 2), bit-back w, low-suc k w) (omega arith)

bits_back : (k w : ℕ) → w < 2 ^ k → outcomes_word (bits_of k w) ≡ w
bits_back k w h = bits-outcomes k w ∙ mod-eq_of_lt h

bits-more : (k j w : ℕ) → bits_of k w ++ bits_of j (w / 2 ^ k) ≡ bits_of (k + j) w
unfolding bits_of
bits-more zero j w = rw (zero-add, div-one)
bits-more (suc k) j w =
    let e : w / 2 / 2 ^ k ≡ w / 2 ^ suc k = shr-shr w 1 k ∙ ap (λ (n : ℕ). w / 2 ^ n) (one-add k) in
    rw (suc-add, ← e) (ap (λ (l : List Bool). eqb (w % 2) 1 ∷ l) (bits-more k j (w / 2)))

all-length : (old : List ℕ) → length (all_bits old) ≡ 64 * length old
unfolding all_bits
all-length [] = refl
all-length (w ∷ old) = length-append (bits_of 64 w) (all_bits old) ∙ omega (arith, all-length old, bits-length 64 w)

all-at : (old : List ℕ) (t : List Bool) (j : ℕ) → j < length old → take 64 (drop (64 * j) (all_bits old ++ t)) ≡ bits_of 64 (get_or old j 0)
unfolding all_bits
all-at [] t j h = absurd (omega arith)
all-at (w ∷ old) t zero h = rw (append_assoc (bits_of 64 w) (all_bits old) t) (take_at (bits_of 64 w) (all_bits old ++ t) 64 (bits-length 64 w))
all-at (w ∷ old) t (suc j) h =
    let e : 64 * suc j ≡ 64 + 64 * j = omega arith in
    let l : List Bool = bits_of 64 w ++ (all_bits old ++ t) in
    rw (append_assoc (bits_of 64 w) (all_bits old) t, e, ← (drop-drop (64 * j) 64 l), drop_at (bits_of 64 w) (all_bits old ++ t) 64 (bits-length 64 w))
    (all-at old t j (omega arith))

module _ (n word : ℕ) (old : List ℕ) (l : length old ≡ 15) (h : record_sound n word old ≡ true) where
  abbrev k : ℕ
  k = newest_of n

  abbrev rest : List Bool
  rest = bits_of (64 - k) (word / 2 ^ k) ++ replicate 64 false

  abbrev x : List Bool
  x = longest k word old

  small : n < 1089
  unfolding record_sound
  small = ltb-true n 1089 (and_left _ _ h)

  word_small : word < 2 ^ newest_bits n
  unfolding record_sound
  word_small = ltb-true word _ (and_left _ _ (and_right (ltb n 1089) _ h))

  old-small : (j : ℕ) → j < 15 → get_or old j 0 < cond (ltb (64 * (j + 1)) n) (2 ^ 64) 1
  unfolding record_sound
  old-small j b = ltb-true _ _ (below_at _ 15 j (and_right (ltb word _) _ (and_right (ltb n 1089) _ h)) b)

  long : length x ≡ 1088
  unfolding longest
  long =
      length-append (bits_of k word) _ ∙ omega (
        arith,
        small,
        bits-length k word,
        length-append (all_bits old) rest,
        all-length old,
        length-append (bits_of (64 - k) (word / 2 ^ k)) (replicate 64 false),
        bits-length (64 - k) (word / 2 ^ k),
      )

  size : length (take n x) ≡ n
  size = length-take-le n x (omega (arith, long, small))

  after : drop k x ≡ all_bits old ++ rest
  unfolding longest
  after = drop_at (bits_of k word) (all_bits old ++ rest) k (bits-length k word)

  front : take k x ≡ bits_of k word
  unfolding longest
  front = take_at (bits_of k word) (all_bits old ++ rest) k (bits-length k word)

  oldest : drop (k + 960) (take 1024 x) ≡ bits_of (64 - k) (word / 2 ^ k)
  oldest =
      let e : 1024 ≡ k + 960 + (64 - k) = omega (arith, small) in
      ap (λ (i : ℕ). drop (k + 960) (take i x)) e ∙ drop-take (k + 960) (64 - k) x ∙ rw (
        ← (drop-drop 960 k x),
        after,
        drop_at (all_bits old) rest 960 (all-length old ∙ omega arith),
      ) (take_at (bits_of (64 - k) (word / 2 ^ k)) (replicate 64 false) (64 - k) (bits-length (64 - k) (word / 2 ^ k)))

  newest-back : newest_word (take n x) ≡ word
  newest-back = rw (size, take-take k n x (omega arith), front) (by-test (ltb 1024 n)
      (λ e.
      let f : 1024 < n = ltb-true 1024 n e in
      let g : k + (64 - k) ≡ 64 = omega (arith, small) in
      rw (take-take 1024 n x (omega arith), oldest, bits-more k (64 - k) word, g) (bits_back 64 word (rw e at word_small)))
      (λ e.
      let f : n ≤ 1024 = ltb-false 1024 n e in
      let none : drop (k + 960) (take 1024 (take n x)) ≡ [] =
      drop_of_length-le (take 1024 (take n x)) {i = k + 960} (omega (arith, length-take 1024 (take n x), size)) in
      rw (none, append-nil (bits_of k word)) (bits_back k word (rw e at word_small))))

  older-back : (j : ℕ) → j < 15 → older_word (take n x) j ≡ get_or old j 0
  unfolding outcomes_word
  older-back j b = rw size (by-test (ltb (64 * (j + 1)) n)
      (λ e.
      let f : k + 64 * j + 64 ≤ n = omega (arith, ltb-true (64 * (j + 1)) n e) in
      rw (
        ← (drop-take (k + 64 * j) 64 (take n x)),
        take-take (k + 64 * j + 64) n x f,
        drop-take (k + 64 * j) 64 x,
        ← (drop-drop (64 * j) k x),
        after,
        all-at old rest j (omega arith),
      ) (bits_back 64 (get_or old j 0) (rw e at (old-small j b))))
      (λ e.
      let f : n ≤ 64 * (j + 1) = ltb-false (64 * (j + 1)) n e in
      let z : get_or old j 0 < 1 = rw e at (old-small j b) in
      rw (drop_of_length-le (take n x) {i = k + 64 * j} (omega (arith, size))) (omega arith)))

pub record-back : (n word : ℕ) (old : List ℕ) → length old ≡ 15 → record_sound n word old ≡ true
    → (seen_word (list_for n word old) ≡ n) × (newest_word (list_for n word old) ≡ word) × (row (older_word (list_for n word old)) 15 ≡ old)
unfolding list_for
record-back n word old l h = (
  rw (size n word old l h) (by-test (leb n 1024) (λ e. rw e) (λ e. rw e (omega (arith, leb-false n 1024 e, small n word old l h)))),
  newest-back n word old l h,
  ext_get_or 0 _ old (row-length _ 15 ∙ sym l) (λ i b.
      let c : i < 15 = omega (arith, row-length (older_word (list_for n word old)) 15) in
      row_at _ 15 i c ∙ older-back n word old l h i c),
)
