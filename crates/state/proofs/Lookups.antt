-- The miss records in lent words: read, turned, put and told a miss. Assumes nothing.
use Prim.Native.Nat.{ℕ, suc, ◌+◌, ◌*◌, ◌-◌, ◌%◌, ◌≤◌, ◌<◌}
use mathlib.Core.Path.{◌≡◌, ap, sym, ◌∙◌}
use mathlib.Core.Bool.{true, false}
use mathlib.Core.List.{List, ◌∷◌}
use native.Mathlib.Omega.{arith}
use lib.Dec.{eqb, ltb}
use borrow.Author.Tests.{eq-eqb, ne_eqb, ltb-true, lt-ltb, le-ltb}
use lib.ListN.{length, get_or, set, take, drop, length-set, length-append, length-drop}
use lib.Seq.{length-take-le, get_or-set_same, get_or-set_other, set-get_or}
use Rattle.laws.proofs.Bools.{by-test, and_left, and_right}
use Rattle.laws.proofs.Belows.{below_at}
use Rattle.machine.specs.Record.{Records, older_of, with_older, turned, pushed, put, noted, record_sound, records_sound}
use Rattle.machine.specs.State.{counts, State, state_in, with_records, encode}
use Rattle.machine.proofs.State.{Sized, sound-records, encode-length, state-encode, encode-state}
use Rattle.state.specs.Calls.{SoundIn, on_records, miss_noted}
use Rattle.state.proofs.Lent.{Lent}
use Rattle.state.proofs.Parts.{sized-words, spliced, seen_read, newest-read, older-read, seen_stored, newest-stored, older-stored}

-- a state with other records, as long as they were
sized-with_records : (u : State) (x : Records) → Sized counts u → length x.seen ≡ 8 → length x.newest ≡ 8 → length x.older ≡ 120
    → Sized counts (with_records u x)
sized-with_records u x z a b c = record { registers = z.registers; itlb = z.itlb; dtlb = z.dtlb; seen = a; newest = b; older = c }

older-length : (older s : List ℕ) (r : ℕ) → length older ≡ 120 → r < 8 → length s ≡ 15 → length (with_older older r s) ≡ 120
older-length older s r l h k =
    length-append (take (r * 15) older) _
    ∙ omega (
      arith,
      length-take-le (r * 15) older (omega arith),
      length-append s (drop 15 (drop (r * 15) older)),
      length-drop 15 (drop (r * 15) older),
      length-drop (r * 15) older,
    )

-- the words t of a turned record, by what the count reads: more than 1,024, which is then lessened, or not
pub record Turned (words : List ℕ) (r : ℕ) (t : List ℕ) : Type 0 where
  pub long : length t ≡ 776
  pub more : 1024 < get_or t (640 + r) 0 → set t (640 + r) (get_or t (640 + r) 0 - 64) ≡ on_records (turned r) words
  pub few : get_or t (640 + r) 0 ≤ 1024 → t ≡ on_records (turned r) words

module _ (words : List ℕ) (l : Lent words) (r : ℕ) (h : r < 8) where
  abbrev u : State
  u = state_in words

  abbrev x : Records
  x = u.records

  z : Sized counts u
  z = sized-words counts words l

  whole : words ≡ encode u
  whole = sym (encode-state counts words l)

  pub seen_at : get_or words (640 + r) 0 ≡ get_or x.seen r 0
  seen_at = ap (λ w. get_or w (640 + r) 0) whole ∙ seen_read counts u z r h

  pub newest-at : get_or words (648 + r) 0 ≡ get_or x.newest r 0
  newest-at = ap (λ w. get_or w (648 + r) 0) whole ∙ newest-read counts u z r h

  pub older-at : take 15 (drop (656 + r * 15) words) ≡ older_of x.older r
  older-at = ap (λ w. take 15 (drop (656 + r * 15) w)) whole ∙ older-read counts u z r h

  pub older-long : length (older_of x.older r) ≡ 15
  older-long = length-take-le 15 (drop (r * 15) x.older) (omega (arith, length-drop (r * 15) x.older, z.older))

  -- one lookup more
  pub put-stored : (w : ℕ) → w ≡ pushed (get_or (set words (640 + r) (get_or words (640 + r) 0 + 1)) (648 + r) 0) 0
      → set (set words (640 + r) (get_or words (640 + r) 0 + 1)) (648 + r) w ≡ on_records (put r 0) words
  unfolding put
  put-stored w e =
      let n : ℕ = get_or words (640 + r) 0 in
      let y : Records = record { seen = set x.seen r (n + 1); newest = x.newest; older = x.older } in
      let zy = sized-with_records u y z (length-set x.seen r (n + 1) ∙ z.seen) z.newest z.older in
      let value : w ≡ pushed (get_or x.newest r 0) 0 =
      e ∙ ap (λ i. pushed i 0) (get_or-set_other words (640 + r) (648 + r) (n + 1) 0 (λ q. omega arith) ∙ newest-at) in
      ap (λ t. set t (648 + r) w) (ap (λ t. set t (640 + r) (n + 1)) whole ∙ seen_stored counts u z r h (n + 1))
      ∙ newest-stored counts (with_records u y) zy r h w ∙ rw (value, seen_at)

  -- it was a miss
  pub miss-stored : set words (648 + r) (get_or words (648 + r) 0 + 1) ≡ on_records (miss_noted r) words
  unfolding miss_noted
  miss-stored =
      let w : ℕ = get_or words (648 + r) 0 + 1 in
      ap (λ t. set t (648 + r) w) whole ∙ newest-stored counts u z r h w ∙ rw newest-at

  -- a full newest word makes way: the older words then, and the word filled anew
  abbrev new : List ℕ
  new = get_or x.newest r 0 ∷ take 14 (older_of x.older r)

  abbrev last : ℕ
  last = get_or (older_of x.older r) 14 0

  abbrev y : Records
  y = record { seen = x.seen; newest = set x.newest r last; older = with_older x.older r new }

  new-length : length (with_older x.older r new) ≡ 120
  new-length = older-length x.older new r z.older h (ap suc (length-take-le 14 (older_of x.older r) (omega (arith, older-long))))

  zy : Sized counts (with_records u y)
  zy = sized-with_records u y z z.seen (length-set x.newest r last ∙ z.newest) new-length

  moved-stored : set (spliced (656 + r * 15) 15 new words) (648 + r) last ≡ encode (with_records u y)
  moved-stored =
      let o : Records = record { seen = x.seen; newest = x.newest; older = with_older x.older r new } in
      ap (λ t. set t (648 + r) last) (ap (spliced (656 + r * 15) 15 new) whole ∙ older-stored counts u z r h new)
      ∙ newest-stored counts (with_records u o) (sized-with_records u o z z.seen z.newest new-length) r h last

  moved-seen : get_or (set (spliced (656 + r * 15) 15 new words) (648 + r) last) (640 + r) 0 ≡ get_or x.seen r 0
  moved-seen = ap (λ w. get_or w (640 + r) 0) moved-stored ∙ seen_read counts (with_records u y) zy r h

  pub turned-stored : (k : ℕ) (s : List ℕ) (v : ℕ) → k ≡ 15 → s ≡ get_or words (648 + r) 0 ∷ take 14 (take k (drop (656 + r * 15) words))
      → v ≡ get_or (take k (drop (656 + r * 15) words)) 14 0 → Turned words r (set (spliced (656 + r * 15) k s words) (648 + r) v)
  unfolding turned
  turned-stored k s v e f g =
      rw (g, f, e, newest-at, older-at) (record {
        long = ap length moved-stored ∙ encode-length counts _ zy;
        more = λ b.
            let c : ltb 1024 (get_or x.seen r 0) ≡ true = lt-ltb 1024 _ (rw moved-seen at b) in
            let n : ℕ = get_or x.seen r 0 - 64 in
            rw (moved-seen, c) (ap (λ t. set t (640 + r) n) moved-stored ∙ seen_stored counts (with_records u y) zy r h n);
        few = λ b.
            let c : ltb 1024 (get_or x.seen r 0) ≡ false = le-ltb 1024 _ (rw moved-seen at b) in
            rw (c, set-get_or x.seen r 0) moved-stored;
      })

  -- ---- both, as a lookup is noted
  turned-sized : Sized counts (with_records u (turned r x))
  unfolding turned
  turned-sized = sized-with_records u (turned r x) z (length-set x.seen r _ ∙ z.seen) zy.newest new-length

  turned-back : state_in (on_records (turned r) words) ≡ with_records u (turned r x)
  turned-back = state-encode counts _ turned-sized

  module _ (sound : SoundIn words) where
    pub seen-small : get_or x.seen r 0 < 1089
    unfolding records_sound record_sound
    seen-small =
        let e = sound-records counts u sound in
        let each = below_at _ 8 r (and_right (eqb (length x.older) 120) _ (and_right (eqb (length x.newest) 8) _
        (and_right (eqb (length x.seen) 8) _ e))) h in
        ltb-true _ 1089 (and_left _ _ each)

    -- a word that is not full
    pub kept-noted : (get_or words (640 + r) 0 % 64 ≡ 0 → ⊥) → on_records (put r 0) words ≡ on_records (noted r 0) words
    kept-noted e = rw (ne_eqb _ 0 (rw seen_at at e))

    -- a full one
    module _ {t : List ℕ} (e : t ≡ on_records (turned r) words) where
      pub turned-small : get_or (state_in t).records.seen r 0 < 1089
      unfolding turned
      turned-small = rw (e, turned-back) (rw (get_or-set_same x.seen r _ 0 (omega (arith, z.seen))) (by-test (ltb 1024 (get_or x.seen r 0))
          (λ b. rw b (omega (arith, seen-small)))
          (λ b. rw b seen-small)))

      pub turned-noted : get_or words (640 + r) 0 % 64 ≡ 0 → on_records (put r 0) t ≡ on_records (noted r 0) words
      turned-noted f = rw (e, turned-back, eq-eqb _ 0 (rw seen_at at f))
