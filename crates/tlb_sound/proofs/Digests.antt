-- Laws of the digest: what it says holds of every slot, and a side is sound by itself slot by slot where it says so. Assumes nothing.
use Rattle.std.proofs.Common.{◌≡◌, ℕ, ◌+◌, ◌-◌, ◌*◌, ◌/◌, ◌%◌, ◌^◌, ◌<◌, ◌≤◌, max, true, false, not, ◌&&◌, ◌||◌, eqb, ltb, leb, List, [], ◌∷◌, map, ◌++◌, sym, refl, ap, ◌∙◌, le_trans, arith, ltb-false, ltb-true, le-ltb, lt-ltb, eq-eqb, ne_eqb, eqb-true, le-leb, leb-false, leb-true}
use mathlib.Core.Bool.{and-true, and-false}
use native.Mathlib.Nat.{le-max_right}
use lib.Bits.{bit_and, bit_or, and_le_l, and_le_r, or_add_and, or_lt, or_shr, or_mod, and_shr, and_mod}
use lib.Pow.{split, mod-mod-pow}
use borrow.Author.Tests.{eqb-false}
use Rattle.laws.specs.Tests.{all_of, pairwise}
use Rattle.laws.proofs.Alls.{all_both}
use Rattle.laws.proofs.Bools.{by-test, both_ways, and_left, and_right}
use Rattle.machine.specs.Pages.{in_range, listed, page_shift, page_size, page_start}
use Rattle.machine.specs.Words.{bits, word_sound}
use Rattle.machine.specs.Slots.{no_slot, is_live, size_code}
use Rattle.machine.specs.Insertion.{overlaps}
use Rattle.machine.specs.Sound.{owner_sound, page_sound, live_sound, slot_sound}
use Rattle.machine.specs.declared.Slot.{Slot}
use Rattle.machine.proofs.Pages.{shift-large}
use Rattle.machine.proofs.Sound.{Live, live-parts, dead-zero}
use Rattle.tlb.specs.Rows.{row_slot}
use Rattle.tlb_sound.specs.Buckets.{largest_code}
use Rattle.tlb_sound.specs.Digests.{reach, digest_one, joined, joined_all, no_digest, digest_of, excess, fields_fit, rest, plain}
use Rattle.tlb_sound.specs.declared.Digest.{Digest}
use Rattle.tlb_sound.proofs.Buckets.{empty-overlaps, masked}

ruleset conj = (and_left, and_right)

-- ---- or has the bits of both: of two numbers, of what is cut out of them, and in a sum of such
abbrev Between : ℕ → ℕ → ℕ → Type 0
Between a b c = (a ≤ c) × (b ≤ c) × (c ≤ a + b)

or-between : (a b : ℕ) → Between a b (bit_or a b)
or-between a b = (omega (arith, or_add_and a b, and_le_r a b), omega (arith, or_add_and a b, and_le_l a b), omega (arith, or_add_and a b))

or-high : (a b k : ℕ) → Between (a / 2 ^ k) (b / 2 ^ k) (bit_or a b / 2 ^ k)
or-high a b k = rw (or_shr a b k) (or-between (a / 2 ^ k) (b / 2 ^ k))

or-low : (a b n : ℕ) → Between (a % 2 ^ n) (b % 2 ^ n) (bit_or a b % 2 ^ n)
or-low a b n = rw (or_mod a b n) (or-between (a % 2 ^ n) (b % 2 ^ n))

or-bits : (a b k n : ℕ) → Between (bits k n a) (bits k n b) (bits k n (bit_or a b))
or-bits a b k n = rw (or_shr a b k) (or-low (a / 2 ^ k) (b / 2 ^ k) n)

-- a bit that either lacks, and has what both have
and-lacks : (a b : ℕ) → a < 2 → b < 2 → Between (1 - a) (1 - b) (1 - bit_and a b)
and-lacks a b h k = (omega (arith, and_le_l a b), omega (arith, and_le_r a b), omega (arith, or_add_and a b, or_lt 1 a b h k))

and-bit : (a b k : ℕ) → Between (1 - bits k 1 a) (1 - bits k 1 b) (1 - bits k 1 (bit_and a b))
and-bit a b k = rw (and_shr a b k, and_mod (a / 2 ^ k) (b / 2 ^ k) 1) (and-lacks (bits k 1 a) (bits k 1 b) (omega arith) (omega arith))

infixr 20 ◌plus◌
◌plus◌ : {a b c x y z : ℕ} → Between a b c → Between x y z → Between (a + x) (b + y) (c + z)
p plus q = (omega (arith, p.0, q.0), omega (arith, p.1, q.1), omega (arith, p.2, q.2))

-- ---- a number of a digest that is zero exactly where it is zero of every slot
module _ (m : Digest → ℕ) (h : (d e : Digest) → Between (m d) (m e) (m (joined d e))) where
  all-zero : (d : Digest) (s : List Slot) → m (joined_all d s) ≡ 0 → (m d ≡ 0) × (all_of (λ x. eqb (m (digest_one x)) 0) s ≡ true)
  unfolding joined_all all_of
  all-zero d [] z = (z, refl)
  all-zero d (x ∷ r) z =
      let more = all-zero (joined d (digest_one x)) r z in
      let both = h d (digest_one x) in
      (omega (arith, both.0, more.0), rw (eq-eqb (m (digest_one x)) 0 (omega (arith, both.1, more.0))) more.1)

  zero-all : (d : Digest) (s : List Slot) → m d ≡ 0 → all_of (λ x. eqb (m (digest_one x)) 0) s ≡ true → m (joined_all d s) ≡ 0
  unfolding joined_all all_of
  zero-all d [] z t = z
  zero-all d (x ∷ r) z t =
      let e : m (digest_one x) ≡ 0 = eqb-true (m (digest_one x)) 0 (and_left _ _ t) in
      zero-all (joined d (digest_one x)) r (omega (arith, (h d (digest_one x)).2, z, e)) (and_right (eqb (m (digest_one x)) 0) _ t)

excess-joined : (d e : Digest) → Between (excess d) (excess e) (excess (joined d e))
unfolding excess
excess-joined d e =
    or-high d.owners e.owners 17 plus or-high d.pages e.pages 48 plus or-low d.pages e.pages 13
    plus or-bits d.words e.words 40 16 plus or-high d.words e.words 64 plus or-high d.flags e.flags 2

rest-joined : (d e : Digest) → Between (rest d) (rest e) (rest (joined d e))
unfolding rest
rest-joined d e = or-low d.words e.words 4 plus or-bits d.owners e.owners 13 1 plus and-bit d.common e.common 63

-- ---- no size code is above that of the words
largest-joined : (d : Digest) (s : List Slot) → max (d.words % 2 ^ 4) (largest_code s) ≤ (joined_all d s).words % 2 ^ 4
unfolding joined_all largest_code
largest-joined d [] = omega arith
largest-joined d (x ∷ r) =
    let o = or-low d.words x.word 4 in
    omega (arith, largest-joined (joined d (digest_one x)) r, o.0, o.1)

pub largest-bound : (s : List Slot) → largest_code s ≤ (digest_of s).words % 2 ^ 4
largest-bound s = le_trans (le-max_right (0 % 2 ^ 4) (largest_code s)) (largest-joined no_digest s)

-- ---- no word has bit 63: no slot is live
empty-pairs : (s : List Slot) → all_of (λ x. eqb (x.word / 2 ^ 63) 0) s ≡ true → pairwise overlaps s ≡ true
unfolding all_of pairwise
empty-pairs [] t = refl
empty-pairs (x ∷ r) t =
    let dead : is_live x ≡ false = rw (eqb-true (x.word / 2 ^ 63) 0 (and_left _ _ t)) in
    rw (empty-overlaps x r dead) (empty-pairs r (and_right (eqb (x.word / 2 ^ 63) 0) _ t))

pub none-overlap : (s : List Slot) → (digest_of s).words / 2 ^ 63 ≡ 0 → pairwise overlaps s ≡ true
none-overlap s z = empty-pairs s (all-zero (λ d. d.words / 2 ^ 63) (λ d e. or-high d.words e.words 63) no_digest s z).1

-- ---- pages, counted from the lowest in range
reach-range : (page : ℕ) → eqb (reach page / 2 ^ 48) 0 ≡ in_range page
unfolding reach in_range
reach-range page =
    by-test (ltb page (2 ^ 64))
    (λ e.
    let h : page < 2 ^ 64 = ltb-true page (2 ^ 64) e in
    by-test (ltb page (2 ^ 47))
    (λ f.
    let low : page < 2 ^ 47 = ltb-true page (2 ^ 47) f in
    rw (e, f) (eq-eqb ((page + 2 ^ 47) % 2 ^ 64 / 2 ^ 48) 0 (omega arith)))
    (λ f.
    let high : 2 ^ 47 ≤ page = ltb-false page (2 ^ 47) f in
    by-test (leb (2 ^ 64 - 2 ^ 47) page)
    (λ g.
    let top : 2 ^ 64 - 2 ^ 47 ≤ page = leb-true (2 ^ 64 - 2 ^ 47) page g in
    rw (e, f, g) (eq-eqb ((page + 2 ^ 47) % 2 ^ 64 / 2 ^ 48) 0 (omega arith)))
    (λ g.
    let gap : page < 2 ^ 64 - 2 ^ 47 = leb-false (2 ^ 64 - 2 ^ 47) page g in
    rw (e, f, g) (ne_eqb ((page + 2 ^ 47) % 2 ^ 64 / 2 ^ 48) 0 (λ z. absurd (omega arith))))))
    (λ e.
    let h : 2 ^ 64 ≤ page = ltb-false page (2 ^ 64) e in
    rw (e, le-ltb page (2 ^ 47) (omega arith), and-false (leb (2 ^ 64 - 2 ^ 47) page)) (ne_eqb (page / 2 ^ 48) 0 (λ z. absurd (omega arith))))

reach-low : (page : ℕ) → reach page % 2 ^ 13 ≡ page % 2 ^ 13
unfolding reach
reach-low page =
    by-test (ltb page (2 ^ 64))
    (λ e.
    let h : page < 2 ^ 64 = ltb-true page (2 ^ 64) e in
    rw e (omega arith))
    (λ e. rw e)

-- ---- fields that fit, one by one
pub record Fits (d : Digest) : Type 0 where
  pub owners : d.owners / 2 ^ 17 ≡ 0
  pub pages : d.pages / 2 ^ 48 ≡ 0
  pub starts : d.pages % 2 ^ 13 ≡ 0
  pub words : bits 40 16 d.words ≡ 0
  pub small : d.words / 2 ^ 64 ≡ 0
  pub flags : d.flags / 2 ^ 2 ≡ 0

fits : (d : Digest) → fields_fit d ≡ true → Fits d
unfolding excess
fits d t =
    let z = eqb-true (excess d) 0 t in
    record {
      owners = omega (arith, z);
      pages = omega (arith, z);
      starts = omega (arith, z);
      words = omega (arith, z);
      small = omega (arith, z);
      flags = omega (arith, z);
    }

pub fit : (d : Digest) → Fits d → fields_fit d ≡ true
unfolding excess
fit d f = rw (f.owners, f.pages, f.starts, f.words, f.small, f.flags)

pub unfit : (d : Digest) → (Fits d → ⊥) → fields_fit d ≡ false
unfit d n = by-test (fields_fit d) (λ t. absurd (n (fits d t))) (λ e. e)

-- ---- and nothing else to ask
pub record Plain (d : Digest) : Type 0 where
  pub code : d.words % 2 ^ 4 ≡ 0
  pub real : bits 13 1 d.owners ≡ 0
  pub live : bits 63 1 d.common ≡ 1

plains : (d : Digest) → plain d ≡ true → Plain d
unfolding rest
plains d t = let z = eqb-true (rest d) 0 t in record { code = omega (arith, z); real = omega (arith, z); live = omega (arith, z) }

pub plain_of : (d : Digest) → Plain d → plain d ≡ true
unfolding rest
plain_of d p = rw (p.code, p.real, p.live)

pub not_plain : (d : Digest) → (Plain d → ⊥) → plain d ≡ false
not_plain d n = by-test (plain d) (λ t. absurd (n (plains d t))) (λ e. e)

-- ---- slots whose fields fit
-- what starts a page is a multiple of 8 KB
start-low : (code page : ℕ) → listed code ≡ true → page_start code page ≡ page → page % 2 ^ 13 ≡ 0
start-low code page h e =
    let k : ℕ = page_shift code in
    let z : page % 2 ^ k ≡ 0 = omega (arith, split page k) in
    let j : k - 13 + 13 ≡ k = omega (arith, shift-large code h) in
    sym (mod-mod-pow page (k - 13) 13) ∙ ap (λ (n : ℕ). page % 2 ^ n % 2 ^ 13) j ∙ ap (λ (n : ℕ). n % 2 ^ 13) z

pub empty-fits : fields_fit (digest_one no_slot) ≡ true
unfolding excess reach
empty-fits = refl

-- a sound slot is one
sound-fits : (x : Slot) → slot_sound x ≡ true → fields_fit (digest_one x) ≡ true
unfolding word_sound
sound-fits x h =
    by-test (is_live x)
    (λ l.
    let p : Live x = live-parts x h l in
    let w : (eqb (x.word / 2 ^ 63) 1 && (listed (size_code x) && eqb (bits 40 16 x.word) 0)) ≡ true = p.word in
    let live : eqb (x.word / 2 ^ 63) 1 ≡ true = search conj in
    let size : listed (size_code x) ≡ true = search conj in
    let bare : eqb (bits 40 16 x.word) 0 ≡ true = search conj in
    fit (digest_one x) (record {
      owners = omega (arith, p.partition);
      pages = eqb-true _ 0 (reach-range x.page ∙ p.range);
      starts = reach-low x.page ∙ start-low (size_code x) x.page size p.start;
      words = eqb-true _ 0 bare;
      small = omega (arith, eqb-true (x.word / 2 ^ 63) 1 live);
      flags = omega (arith, p.flags);
    }))
    (λ l. ap (λ y. fields_fit (digest_one y)) (dead-zero x h l) ∙ empty-fits)

-- ---- what is left to ask of a live slot whose fields fit
-- the real bit stands above the context: a real owner's lowest 14 bits are 2 ^ 13 alone
real-low : (o : ℕ) → leb (o % 2 ^ 14) (2 ^ 13) ≡ (not (eqb (o / 2 ^ 13 % 2) 1) || eqb (o % 2 ^ 13) 0)
real-low o =
    by-test (eqb (o / 2 ^ 13 % 2) 1)
    (λ e.
    let r : o / 2 ^ 13 % 2 ≡ 1 = eqb-true _ 1 e in
    rw e (both_ways (leb (o % 2 ^ 14) (2 ^ 13)) (eqb (o % 2 ^ 13) 0)
    (λ h. eq-eqb (o % 2 ^ 13) 0 (omega (arith, leb-true (o % 2 ^ 14) (2 ^ 13) h)))
    (λ h. le-leb (o % 2 ^ 14) (2 ^ 13) (omega (arith, eqb-true (o % 2 ^ 13) 0 h)))))
    (λ e.
    let r : o / 2 ^ 13 % 2 ≡ 1 → ⊥ = eqb-false _ 1 e in
    rw e (le-leb (o % 2 ^ 14) (2 ^ 13) (omega arith)))

live-rest : (x : Slot) → is_live x ≡ true → fields_fit (digest_one x) ≡ true
    → live_sound x ≡ (listed (size_code x) && (leb (x.owner % 2 ^ 14) (2 ^ 13) && eqb (page_start (size_code x) x.page) x.page))
unfolding live_sound word_sound owner_sound page_sound
live-rest x l t =
    let f = fits (digest_one x) t in
    let p : ltb (x.owner / 2 ^ 14) 8 ≡ true = lt-ltb (x.owner / 2 ^ 14) 8 (omega (arith, f.owners)) in
    let r : in_range x.page ≡ true = sym (reach-range x.page) ∙ eq-eqb _ 0 f.pages in
    let g : ltb x.flags 4 ≡ true = lt-ltb x.flags 4 (omega (arith, f.flags)) in
    rw (l, f.words, p, r, g, real-low x.owner, and-true (listed (size_code x)), and-true (eqb (page_start (size_code x) x.page) x.page))

-- nothing, of a plain one
plain-sound : (x : Slot) → fields_fit (digest_one x) ≡ true → plain (digest_one x) ≡ true → slot_sound x ≡ true
unfolding slot_sound listed page_shift
plain-sound x t u =
    let f = fits (digest_one x) t in
    let p = plains (digest_one x) u in
    let l : is_live x ≡ true = eq-eqb (x.word / 2 ^ 63) 1 (omega (arith, f.small, p.live)) in
    rw l (live-rest x l t ∙ rw (p.code, le-leb (x.owner % 2 ^ 14) (2 ^ 13) (omega (arith, p.real)))
    (eq-eqb (x.page / 2 ^ 13 * 2 ^ 13) x.page (omega (arith, sym (reach-low x.page) ∙ f.starts))))

-- exactly the listed codes have a page of more than one byte
listed-mask : (code : ℕ) → listed code ≡ not (eqb (page_size code - 1) 0)
unfolding listed page_shift
listed-mask code =
    by-test (eqb code 0) (λ e. rw e) (λ e0.
    by-test (eqb code 1) (λ e. rw (e0, e)) (λ e1.
    by-test (eqb code 3) (λ e. rw (e0, e1, e)) (λ e3.
    by-test (eqb code 5) (λ e. rw (e0, e1, e3, e)) (λ e5. rw (e0, e1, e3, e5)))))

-- by the mask of the page
pub live-left : (x : Slot) → is_live x ≡ true → fields_fit (digest_one x) ≡ true →
    let mask = page_size (size_code x) - 1 in
    live_sound x ≡ (not (eqb mask 0) && (leb (x.owner % 2 ^ 14) (2 ^ 13) && eqb (bit_and x.page mask) 0))
live-left x l t = live-rest x l t ∙ rw (listed-mask (size_code x), ← (masked x.page (page_shift (size_code x))))

-- ---- a side
pub side_fits_lem : (s : List Slot) → all_of slot_sound s ≡ true → fields_fit (digest_of s) ≡ true
unfolding excess
side_fits_lem s h =
    eq-eqb (excess (digest_of s)) 0 (zero-all excess excess-joined no_digest s refl
    (all_both slot_sound slot_sound (λ x. fields_fit (digest_one x)) s (λ x t u. sound-fits x t) h h))

pub fits_all : (s : List Slot) → fields_fit (digest_of s) ≡ true → all_of (λ x. fields_fit (digest_one x)) s ≡ true
fits_all s t = (all-zero excess excess-joined no_digest s (eqb-true (excess (digest_of s)) 0 t)).1

pub plain-side : (s : List Slot) → fields_fit (digest_of s) ≡ true → plain (digest_of s) ≡ true → all_of slot_sound s ≡ true
plain-side s t u =
    all_both (λ x. fields_fit (digest_one x)) (λ x. plain (digest_one x)) slot_sound s plain-sound (fits_all s t)
    (all-zero rest rest-joined no_digest s (eqb-true (rest (digest_of s)) 0 u)).1

-- ---- row after row
pub joined_more : (d : Digest) (rows : List (List ℕ)) (row : List ℕ)
    → joined_all d (map row_slot (rows ++ (row ∷ []))) ≡ joined (joined_all d (map row_slot rows)) (digest_one (row_slot row))
unfolding joined_all
joined_more d [] row = refl
joined_more d (r ∷ rows) row = joined_more (joined d (digest_one (row_slot r))) rows row
