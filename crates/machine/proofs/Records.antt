-- The miss records of the unit and the lookups of the ledger: a lookup is noted in both alike, the rate is the same, and the records are sound.
-- Assumes nothing.
use Prim.Native.Nat.{ℕ, zero, suc, ◌+◌, ◌*◌, ◌-◌, ◌/◌, ◌%◌, ◌≤◌, ◌<◌}
use mathlib.Core.Path.{◌≡◌, refl, ap, sym, ◌∙◌}
use mathlib.Core.Bool.{Bool, true, false, not, cond, ◌&&◌}
use mathlib.Core.List.{List, ◌∷◌, ◌++◌}
use native.Mathlib.Omega.{arith}
use native.Mathlib.Nat.{mul_comm}
use lib.Dec.{eqb, leb, ltb}
use lib.ListN.{length, get_or, set, take, drop, length-set, length-append, length-drop, get_or-append}
use lib.Seq.{ext_get_or, length-take-le, get_or-take, get_or-drop, get_or-append-add, get_or-set_same, get_or-set_other, set-set}
use borrow.Author.Tests.{eqb-true, eqb-false, eq-eqb, le-leb, ltb-true, ltb-false}
use Rattle.laws.specs.Tests.{tick}
use Rattle.laws.proofs.Bools.{by-test, and_both, and_left, and_right}
use Rattle.laws.proofs.Belows.{below_all, below_at}
use Rattle.machine.specs.Record.{Records, record_of, older_of, with_older, turned, pushed, put, noted, per_thousand, miss_rate, record_sound, records_sound}
use Rattle.machine.specs.Questions.{has_lookups}
use Rattle.machine.specs.Ledger.{thousandths}
use Rattle.machine.specs.Places.{row, seen_word, newest_word, older_word, older_words}
use Rattle.machine.proofs.Record.{row-length, row_at, seen_more, seen_turned, newest-more, older-same, newest-turned, older-first, older-next}
use Rattle.machine.proofs.Record.{record-kept, record-misses, record-good, list_for, record-back}
use Rattle.machine.proofs.Alike.{RecordsAlike}

ruleset conj = (and_left, and_right, eqb-true)

-- ---- rows
row-ext : (s : List ℕ) (f : ℕ → ℕ) (n : ℕ) → length s ≡ n → ((i : ℕ) → i < n → get_or s i 0 ≡ f i) → s ≡ row f n
row-ext s f n l h = ext_get_or 0 s (row f n) (l ∙ sym (row-length f n)) (λ i b. let c : i < n = omega (arith, l) in h i c ∙ sym (row_at f n i c))

-- one place of a row changed
row-set : (f g : ℕ → ℕ) (n r : ℕ) (v : ℕ) → r < n → v ≡ g r → ((i : ℕ) → i < n → (i ≡ r → ⊥) → f i ≡ g i) → set (row f n) r v ≡ row g n
row-set f g n r v b e h = row-ext _ g n (length-set (row f n) r v ∙ row-length f n) (λ i c. by-test (eqb i r)
    (λ t. rw (eqb-true i r t) (get_or-set_same (row f n) r v 0 (rw (row-length f n) b) ∙ e))
    (λ t. let d = eqb-false i r t in get_or-set_other (row f n) r i v 0 d ∙ row_at f n i c ∙ h i c d))

-- a place set, and set again by what stands there
set-again : (s : List ℕ) (r v : ℕ) (f : ℕ → ℕ) → r < length s → set (set s r v) r (f (get_or (set s r v) r 0)) ≡ set s r (f v)
set-again s r v f b = rw (get_or-set_same s r v 0 b) (set-set s r v (f v))

-- a part of a row
row-part : (f g : ℕ → ℕ) (n a k : ℕ) → a + k ≤ n → ((j : ℕ) → j < k → f (a + j) ≡ g j) → take k (drop a (row f n)) ≡ row g k
row-part f g n a k h e =
    row-ext _ g k (length-take-le k (drop a (row f n)) (omega (arith, length-drop a (row f n), row-length f n))) (λ i b.
    get_or-take k (drop a (row f n)) i 0 b ∙ get_or-drop a (row f n) i 0 ∙ row_at f n (a + i) (omega arith) ∙ e i b)

-- a part replaced
row-replaced : (f g : ℕ → ℕ) (n a k : ℕ) (s : List ℕ) → a + k ≤ n → length s ≡ k → ((j : ℕ) → j < k → get_or s j 0 ≡ g (a + j))
    → ((i : ℕ) → i < n → (a ≤ i → i < a + k → ⊥) → f i ≡ g i) → take a (row f n) ++ (s ++ drop k (drop a (row f n))) ≡ row g n
row-replaced f g n a k s h l p q =
    let front : List ℕ = take a (row f n) in
    let back : List ℕ = drop k (drop a (row f n)) in
    let lf : length front ≡ a = length-take-le a (row f n) (omega (arith, row-length f n)) in
    let lb : length back ≡ n - a - k = omega (arith, length-drop k (drop a (row f n)), length-drop a (row f n), row-length f n) in
    row-ext _ g n (length-append front (s ++ back) ∙ omega (arith, length-append s back)) (λ i b.
    by-test (ltb i a)
    (λ t.
    let c : i < a = ltb-true i a t in
    get_or-append front (s ++ back) 0 i (rw lf c) ∙ get_or-take a (row f n) i 0 c ∙ row_at f n i b ∙ q i b (λ d e. omega arith))
    (λ t.
    let c : a ≤ i = ltb-false i a t in
    let e : i ≡ length front + (i - a) = omega arith in
    ap (λ (j : ℕ). get_or (front ++ (s ++ back)) j 0) e ∙ get_or-append-add front (s ++ back) (i - a) 0 ∙ by-test (ltb (i - a) k)
    (λ u.
    let d : i - a < k = ltb-true (i - a) k u in
    let w : a + (i - a) ≡ i = omega arith in
    get_or-append s back 0 (i - a) (rw l d) ∙ p (i - a) d ∙ ap g w)
    (λ u.
    let d : k ≤ i - a = ltb-false (i - a) k u in
    let w : i - a ≡ length s + (i - a - k) = omega arith in
    let v : a + (k + (i - a - k)) ≡ i = omega arith in
    ap (λ (j : ℕ). get_or (s ++ back) j 0) w ∙ get_or-append-add s back (i - a - k) 0 ∙ get_or-drop k (drop a (row f n)) (i - a - k) 0
    ∙ get_or-drop a (row f n) (k + (i - a - k)) 0 ∙ ap (λ (j : ℕ). get_or (row f n) j 0) v ∙ row_at f n i b ∙ q i b (λ x y. omega arith))))

positive : (n : ℕ) → leb 1 n ≡ not (eqb n 0)
positive n = by-test (eqb n 0) (λ e. rw (eqb-true n 0 e)) (λ e. rw (e, le-leb 1 n (omega (arith, eqb-false n 0 e))))

-- ---- the record of a strand and side
module _ {x : Records} {m : ℕ → ℕ → List Bool} (h : RecordsAlike x m) (strand side : ℕ) (s : strand < 4) (d : side < 2) where
  abbrev r : ℕ
  r = record_of strand side

  abbrev l : List Bool
  l = m strand side

  at-strand : r / 2 ≡ strand
  at-strand = omega arith

  at_side : r % 2 ≡ side
  at_side = omega arith

  -- an older word's record and place in it
  in-record : (j : ℕ) → j < 15 → ((r * 15 + j) / 15 ≡ r) × ((r * 15 + j) % 15 ≡ j)
  in-record j b = omega arith

  pub record-seen : get_or x.seen r 0 ≡ seen_word l
  record-seen = rw h.seen (row_at _ 8 r (omega arith) ∙ rw (at-strand, at_side))

  pub record-newest : get_or x.newest r 0 ≡ newest_word l
  record-newest = rw h.newest (row_at _ 8 r (omega arith) ∙ rw (at-strand, at_side))

  pub record-older : older_of x.older r ≡ row (older_word l) 15
  record-older = rw h.older (row-part _ (older_word l) 120 (r * 15) 15 (omega arith) (λ j b.
      let (q, e) = in-record j b in
      rw (q, e, at-strand, at_side)))

  record_sound_lem : record_sound (get_or x.seen r 0) (get_or x.newest r 0) (older_of x.older r) ≡ true
  record_sound_lem = rw (record-seen, record-newest, record-older) (record-good l)

  -- ---- the rate
  pub lookups-alike : leb 1 (length (take 1024 l)) ≡ has_lookups x r
  lookups-alike = rw (record-seen, record-kept l) (positive (length (take 1024 l)))

  pub rate-alike : thousandths (take 1024 l) ≡ miss_rate x r
  unfolding thousandths miss_rate per_thousand
  rate-alike = rw (record-seen, record-newest, record-older, record-kept l, record-misses l) (ap (λ (part : ℕ). part / length (take 1024 l)) (mul_comm 1000 _))

  -- ---- one lookup more
  module _ (b : Bool) where
    abbrev more : ℕ → ℕ → List Bool
    more s d = cond (eqb s strand && eqb d side) (b ∷ m s d) (m s d)

    more-here : more (r / 2) (r % 2) ≡ b ∷ l
    more-here = rw (at-strand, at_side, eq-eqb strand strand refl, eq-eqb side side refl)

    more-other : (i : ℕ) → (i ≡ r → ⊥) → m (i / 2) (i % 2) ≡ more (i / 2) (i % 2)
    more-other i e = by-test (eqb (i / 2) strand && eqb (i % 2) side)
        (λ t.
        let a = eqb-true (i / 2) strand (and_left _ _ t) in
        let c = eqb-true (i % 2) side (and_right (eqb (i / 2) strand) _ t) in
        absurd (e (omega arith)))
        (λ t. rw t)

    -- the words of one kind, one for each record
    one_more : (f : List Bool → ℕ) (v : ℕ) → v ≡ f (b ∷ l)
        → set (row (λ i. f (m (i / 2) (i % 2))) 8) r v ≡ row (λ i. f (more (i / 2) (i % 2))) 8
    one_more f v e = row-set _ _ 8 r v (omega arith) (e ∙ ap f (sym more-here)) (λ i c n. ap f (more-other i n))

    kept-older : eqb (seen_word l % 64) 0 ≡ false → older_words m ≡ older_words more
    kept-older e = row-ext (older_words m) _ 120 (row-length _ 120) (λ i c. row_at _ 120 i c ∙ by-test (eqb (i / 15) r)
        (λ t. rw (eqb-true (i / 15) r t, more-here, at-strand, at_side) (older-same l b e (i % 15)))
        (λ t. ap (λ (k : List Bool). older_word k (i % 15)) (more-other (i / 15) (eqb-false (i / 15) r t))))

    turned-older : eqb (seen_word l % 64) 0 ≡ true → with_older (older_words m) r (newest_word l ∷ take 14 (row (older_word l) 15)) ≡ older_words more
    turned-older e =
        row-replaced _ _ 120 (r * 15) 15 (newest_word l ∷ take 14 (row (older_word l) 15)) (omega arith)
        (ap suc (length-take-le 14 (row (older_word l) 15) (omega (arith, row-length (older_word l) 15))))
        (λ j c.
        let (q, i) = in-record j c in
        rw (q, i, more-here) (moved j c))
        (λ i c o. ap (λ (k : List Bool). older_word k (i % 15)) (more-other (i / 15) (λ z. o (omega arith) (omega arith))))
      where
        moved : (j : ℕ) → j < 15 → get_or (newest_word l ∷ take 14 (row (older_word l) 15)) j 0 ≡ older_word (b ∷ l) j
        moved zero c = older-first l b e
        moved (suc j) c = get_or-take 14 (row (older_word l) 15) j 0 (omega arith) ∙ row_at (older_word l) 15 j (omega arith) ∙ older-next l b e j

    pub noted-alike : RecordsAlike (noted r (tick b) x) more
    unfolding put turned
    noted-alike = by-test (eqb (seen_word l % 64) 0)
        (λ e. rw (record-seen, e, record-newest, record-older) (record {
          seen = set-again x.seen r _ (λ n. n + 1) (rw (h.seen, row-length) (omega arith)) ∙ rw h.seen (one_more seen_word _ (seen_turned l b e));
          newest = set-again x.newest r _ (λ w. pushed w (tick b)) (rw (h.newest, row-length) (omega arith))
              ∙ rw (h.newest, row_at (older_word l) 15 14 (omega arith)) (one_more newest_word _ (newest-turned l b e));
          older = rw h.older (turned-older e);
        }))
        (λ e. rw (record-seen, e) (rw (record-seen, record-newest) (record {
          seen = rw h.seen (one_more seen_word _ (seen_more l b e));
          newest = rw h.newest (one_more newest_word _ (newest-more l b e));
          older = h.older ∙ kept-older e;
        })))

-- ---- of all
pub records_sound_lem : {x : Records} {m : ℕ → ℕ → List Bool} → RecordsAlike x m → records_sound x ≡ true
unfolding records_sound
records_sound_lem {x} h =
    and_both _ _ (eq-eqb _ _ (ap length h.seen ∙ row-length _ 8)) (and_both _ _ (eq-eqb _ _ (ap length h.newest ∙ row-length _ 8))
    (and_both _ _ (eq-eqb _ _ (ap length h.older ∙ row-length _ 120)) (below_all _ 8 each)))
  where
    each : (i : ℕ) → i < 8 → record_sound (get_or x.seen i 0) (get_or x.newest i 0) (older_of x.older i) ≡ true
    each i b = let e : record_of (i / 2) (i % 2) ≡ i = omega arith in rw e at (record_sound_lem h (i / 2) (i % 2) (omega arith) (omega arith))

-- sound records are those of the lists that they hold
abbrev pub lookups_of : Records → ℕ → ℕ → List Bool
lookups_of x strand side =
    let r : ℕ = record_of strand side in
    list_for (get_or x.seen r 0) (get_or x.newest r 0) (older_of x.older r)

pub records-back : (x : Records) → records_sound x ≡ true → RecordsAlike x (lookups_of x)
unfolding records_sound
records-back x h = record {
  seen = row-ext x.seen _ 8 seen (λ i b. rw (same i) (sym (back i b).0));
  newest = row-ext x.newest _ 8 newest (λ i b. rw (same i) (sym (back i b).1));
  older = row-ext x.older _ 120 older (λ i b.
      let r : ℕ = i / 15 in
      let j : ℕ = i % 15 in
      let e : r * 15 + j ≡ i = omega arith in
      let small : j < 15 = omega arith in
      rw (same r) (ap (λ k. get_or x.older k 0) (sym e) ∙ sym (get_or-take 15 (drop (r * 15) x.older) j 0 small ∙ get_or-drop (r * 15) x.older j 0)
      ∙ ap (λ w. get_or w j 0) (sym (back r (omega arith)).2) ∙ row_at _ 15 j small));
}
  where
    same : (r : ℕ) → record_of (r / 2) (r % 2) ≡ r
    same r = omega arith

    seen : length x.seen ≡ 8
    seen = search conj

    newest : length x.newest ≡ 8
    newest = search conj

    older : length x.older ≡ 120
    older = search conj

    back : (r : ℕ) → r < 8 →
        let m : List Bool = list_for (get_or x.seen r 0) (get_or x.newest r 0) (older_of x.older r) in
        (seen_word m ≡ get_or x.seen r 0) × (newest_word m ≡ get_or x.newest r 0) × (row (older_word m) 15 ≡ older_of x.older r)
    back r b =
        record-back _ _ (older_of x.older r) (length-take-le 15 (drop (r * 15) x.older) (omega (arith, length-drop (r * 15) x.older, older)))
        (below_at _ 8 r (and_right (eqb (length x.older) 120) _ (and_right (eqb (length x.newest) 8) _ (and_right (eqb (length x.seen) 8) _ h))) b)
