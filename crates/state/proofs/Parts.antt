-- The parts of lent words: a register's cell and a side's slots, read and put back. Over any number of slots.
-- Assumes nothing.
use Prim.Native.Nat.{ℕ, ◌+◌, ◌*◌, ◌≤◌, ◌<◌}
use mathlib.Core.Path.{◌≡◌, refl, ap, sym, ◌∙◌}
use mathlib.Core.Bool.{true, false, ◌&&◌}
use mathlib.Core.List.{List, [], ◌∷◌, ◌++◌, append_assoc}
use native.Mathlib.Omega.{arith}
use native.Mathlib.Nat.{zero-add, suc-add}
use lib.Dec.{eqb}
use lib.ListN.{length, get_or, set, take, drop, length-set, length-drop, length-append, get_or-append}
use lib.Seq.{take-add, drop-drop, length-take-le, get_or-take, get_or-append-add, take-set-lt, drop-set-lt, set-append_left, take-append-add, drop-append-add}
use borrow.Author.Tests.{eq-eqb, eqb-true, eqb-false}
use Rattle.laws.proofs.Bools.{by-test}
use Rattle.machine.specs.Slots.{slots_of, words_of}
use Rattle.machine.specs.Sound.{side_sound}
use Rattle.machine.specs.Registers.{register_words, cell, register, with_register, registers_sound}
use Rattle.machine.specs.Record.{Records, record_count, older_start, older_of, with_older, records_sound}
use Rattle.machine.specs.State.{Counts, State, slot_count, side_of, with_side, with_registers, with_records, record_start, state_words, state_of, encode}
use Rattle.machine.specs.State.{side_fits, sound, words_sound}
use Rattle.machine.specs.declared.Slot.{Slot}
use Rattle.machine.proofs.Slots.{slots_length, words_back, words-length}
use Rattle.machine.proofs.State.{Sized, cut, encode-state}

-- ---- a state with as many registers, slots and words of records as it should have
-- words of the right length hold such a state
pub sized-words : (n : Counts) (words : List ℕ) → length words ≡ state_words n → Sized n (state_of n words)
unfolding state_of
sized-words n words l =
    let part : (k a : ℕ) → a + k ≤ length words → length (take k (drop a words)) ≡ k =
    λ k a h. length-take-le k (drop a words) (omega (arith, length-drop a words)) in
    record {
      registers = length-take-le register_words words (omega arith);
      itlb = slots_length _ ∙ omega (arith, part (n.itlb * 4) register_words (omega arith));
      dtlb = slots_length _ ∙ omega (arith, part (n.dtlb * 4) (register_words + n.itlb * 4) (omega arith));
      seen = part record_count (record_start n) (omega arith);
      newest = part record_count (record_start n + record_count) (omega arith);
      older = length-drop (record_start n + record_count + record_count) words ∙ omega arith;
    }

module _ (n : Counts) (u : State) (z : Sized n u) where
  pub sized-side : (side : ℕ) → length (side_of u side) ≡ slot_count n side
  sized-side side = by-test (eqb side 0) (λ e. rw e z.itlb) (λ e. rw e z.dtlb)

  pub sized-with_registers : (file : List ℕ) → length file ≡ register_words → Sized n (with_registers u file)
  sized-with_registers file l = record { registers = l; itlb = z.itlb; dtlb = z.dtlb; seen = z.seen; newest = z.newest; older = z.older }

  pub sized-with_side : (side : ℕ) (s : List Slot) → length s ≡ slot_count n side → Sized n (with_side u side s)
  sized-with_side side s l = record {
    registers = z.registers;
    itlb = by-test (eqb side 0) (λ e. rw e (rw e at l)) (λ e. rw e z.itlb);
    dtlb = by-test (eqb side 0) (λ e. rw e z.dtlb) (λ e. rw e (rw e at l));
    seen = z.seen;
    newest = z.newest;
    older = z.older;
  }

-- ---- a register
pub register-read : (n : Counts) (words : List ℕ) (strand number : ℕ) → strand < 4 → number < 32
    → get_or words (cell strand number) 0 ≡ register (state_of n words).registers strand number
unfolding state_of
register-read n words strand number s r = sym (get_or-take register_words words (cell strand number) 0 (omega arith))

-- where a side's words start
abbrev pub side_start : Counts → ℕ → ℕ
side_start n side = register_words + side * (n.itlb * 4)

module _ (n : Counts) (words : List ℕ) (l : length words ≡ state_words n) where
  -- a register stored in its cell
  pub register-stored : (strand number value : ℕ) → strand < 4 → number < 32
      → set words (cell strand number) value ≡ encode (with_registers (state_of n words) (with_register (state_of n words).registers strand number value))
  unfolding state_of
  register-stored strand number value s r =
      let c : ℕ = cell strand number in
      let low : c < register_words = omega arith in
      let past : (a : ℕ) → register_words ≤ a → drop a (set words c value) ≡ drop a words = λ a h. drop-set-lt a words c value (omega arith) in
      sym (encode-state n (set words c value) (length-set words c value ∙ l))
      ∙ ap encode (rw (
        take-set-lt,
        past register_words (omega arith),
        past (register_words + n.itlb * 4) (omega arith),
        past (record_start n) (omega arith),
        past (record_start n + record_count) (omega arith),
        past (record_start n + record_count + record_count) (omega arith),
      ))

  -- ---- a side: the k words from a on
  module _ (side a k : ℕ) (h : side < 2) (start : a ≡ side_start n side) (count : k ≡ slot_count n side * 4) where
    -- which side it is, and so where its words stand
    by_side : {C : Type 0} → (eqb side 0 ≡ true → a ≡ register_words → k ≡ n.itlb * 4 → C)
        → (eqb side 0 ≡ false → a ≡ register_words + n.itlb * 4 → k ≡ n.dtlb * 4 → C) → C
    by_side itlb dtlb = by-test (eqb side 0)
        (λ e. itlb e (rw (eqb-true side 0 e) at start ∙ omega arith) (rw e at count))
        (λ e. let one : side ≡ 1 = omega (arith, eqb-false side 0 e) in dtlb e (rw one at start ∙ omega arith) (rw e at count))

    pub side-length : length (take k (drop a words)) ≡ slot_count n side * 4
    side-length =
        length-take-le k (drop a words) (by_side
        (λ e p q. omega (arith, length-drop a words))
        (λ e p q. omega (arith, length-drop a words)))
        ∙ count

    -- the slots of the part are the side's
    pub side-read : slots_of (take k (drop a words)) ≡ side_of (state_of n words) side
    unfolding state_of
    side-read = by_side (λ e p q. rw (e, p, q)) (λ e p q. rw (e, p, q))

    -- the words with the side's part replaced
    pub side-stored : (s : List Slot) → take a words ++ (words_of s ++ drop k (drop a words)) ≡ encode (with_side (state_of n words) side s)
    unfolding state_of encode
    side-stored s =
        let m : ℕ = n.itlb * 4 in
        let start : ℕ = record_start n in
        let back : (c b : ℕ) → c + b * 4 ≤ length words → words_of (slots_of (take (b * 4) (drop c words))) ≡ take (b * 4) (drop c words) =
        λ c b g. words_back (take (b * 4) (drop c words)) (omega (arith, length-take-le (b * 4) (drop c words) (omega (arith, length-drop c words)))) in
        let records : take record_count (drop start words)
        ++ (take record_count (drop (start + record_count) words) ++ drop (start + record_count + record_count) words)
        ≡ drop start words = rw (cut (start + record_count) record_count words, cut start record_count words) in
        by_side
        (λ e p q.
        rw (e, p, q, drop-drop m register_words words, back (register_words + m) n.dtlb (omega arith), records, cut (register_words + m) (n.dtlb * 4) words))
        (λ e p q.
        rw (e, p, q, drop-drop (n.dtlb * 4) (register_words + m) words, back register_words n.itlb (omega arith), records, take-add register_words m words)
        (append_assoc (take register_words words) (take m (drop register_words words)) _))

  -- ---- soundness, part by part
  pub sound-parts : words_sound n words
      ≡ (registers_sound (state_of n words).registers
      && (side_sound (state_of n words).itlb && (side_sound (state_of n words).dtlb && records_sound (state_of n words).records)))
  unfolding words_sound sound side_fits
  sound-parts =
      let z : Sized n (state_of n words) = sized-words n words l in
      rw (eq-eqb _ _ l, eq-eqb _ _ z.itlb, eq-eqb _ _ z.dtlb)

-- ---- the miss records
-- behind the first a words: read, stored, and k of them replaced
get_d_past : (p q : List ℕ) (a i : ℕ) → length p ≡ a → get_or (p ++ q) (a + i) 0 ≡ get_or q i 0
get_d_past p q a i h = rw (← h) (get_or-append-add p q i 0)

drop_past : (p q : List ℕ) (a i : ℕ) → length p ≡ a → drop (a + i) (p ++ q) ≡ drop i q
drop_past p q a i h = rw (← h) (drop-append-add p q i)

set_past : (p q : List ℕ) (a i v : ℕ) → length p ≡ a → set (p ++ q) (a + i) v ≡ p ++ set q i v
set_past [] q a i v h = rw (← h, zero-add)
set_past (x ∷ p) q a i v h = rw (← h, suc-add) (ap (λ (t : List ℕ). x ∷ t) (set_past p q (length p) i v refl))

abbrev pub spliced : ℕ → ℕ → List ℕ → List ℕ → List ℕ
spliced a k s words = take a words ++ (s ++ drop k (drop a words))

splice-past : (p q s : List ℕ) (a i k : ℕ) → length p ≡ a → spliced (a + i) k s (p ++ q) ≡ p ++ spliced i k s q
splice-past p q s a i k h = rw (← h, take-append-add p q i, drop-append-add p q i) (append_assoc p (take i q) (s ++ drop k (drop i q)))

module _ (n : Counts) (u : State) (z : Sized n u) where
  abbrev x : Records
  x = u.records

  -- the words before those of what was seen, before the newest words and before the older ones
  abbrev front1 : List ℕ
  front1 = u.registers ++ (words_of u.itlb ++ words_of u.dtlb)

  abbrev front2 : List ℕ
  front2 = front1 ++ x.seen

  abbrev front3 : List ℕ
  front3 = front2 ++ x.newest

  length1 : length front1 ≡ record_start n
  length1 = simp length-append (omega (arith, words-length u.itlb, words-length u.dtlb, z.registers, z.itlb, z.dtlb))

  length2 : length front2 ≡ record_start n + record_count
  length2 = length-append front1 x.seen ∙ omega (arith, length1, z.seen)

  length3 : length front3 ≡ record_start n + record_count + record_count
  length3 = length-append front2 x.newest ∙ omega (arith, length2, z.newest)

  -- the words of a state with other records, from there on
  from1 : (a : List ℕ) → encode (with_records u (record { seen = a; newest = x.newest; older = x.older })) ≡ front1 ++ (a ++ (x.newest ++ x.older))
  unfolding encode
  from1 a = simp append_assoc

  from2 : (b : List ℕ) → encode (with_records u (record { seen = x.seen; newest = b; older = x.older })) ≡ front2 ++ (b ++ x.older)
  unfolding encode
  from2 b = simp append_assoc

  from3 : (c : List ℕ) → encode (with_records u (record { seen = x.seen; newest = x.newest; older = c })) ≡ front3 ++ c
  unfolding encode
  from3 c = simp append_assoc

  module _ (r : ℕ) (h : r < record_count) where
    -- read
    pub seen_read : get_or (encode u) (record_start n + r) 0 ≡ get_or x.seen r 0
    seen_read =
        ap (λ w. get_or w (record_start n + r) 0) (from1 x.seen) ∙ get_d_past front1 _ _ r length1
        ∙ get_or-append x.seen _ 0 r (omega (arith, z.seen))

    pub newest-read : get_or (encode u) (record_start n + record_count + r) 0 ≡ get_or x.newest r 0
    newest-read =
        ap (λ w. get_or w (record_start n + record_count + r) 0) (from2 x.newest) ∙ get_d_past front2 _ _ r length2
        ∙ get_or-append x.newest _ 0 r (omega (arith, z.newest))

    pub older-read : take 15 (drop (record_start n + record_count + record_count + older_start r) (encode u)) ≡ older_of x.older r
    older-read = ap (take 15)
        (ap (drop (record_start n + record_count + record_count + older_start r)) (from3 x.older) ∙ drop_past front3 _ _ (older_start r) length3)

    -- stored
    pub seen_stored : (v : ℕ) → set (encode u) (record_start n + r) v
        ≡ encode (with_records u (record { seen = set x.seen r v; newest = x.newest; older = x.older }))
    seen_stored v =
        ap (λ w. set w (record_start n + r) v) (from1 x.seen) ∙ set_past front1 _ _ r v length1
        ∙ ap (λ w. front1 ++ w) (set-append_left x.seen _ r v (omega (arith, z.seen))) ∙ sym (from1 (set x.seen r v))

    pub newest-stored : (v : ℕ) → set (encode u) (record_start n + record_count + r) v
        ≡ encode (with_records u (record { seen = x.seen; newest = set x.newest r v; older = x.older }))
    newest-stored v =
        ap (λ w. set w (record_start n + record_count + r) v) (from2 x.newest) ∙ set_past front2 _ _ r v length2
        ∙ ap (λ w. front2 ++ w) (set-append_left x.newest _ r v (omega (arith, z.newest))) ∙ sym (from2 (set x.newest r v))

    pub older-stored : (s : List ℕ) → spliced (record_start n + record_count + record_count + older_start r) 15 s (encode u)
        ≡ encode (with_records u (record { seen = x.seen; newest = x.newest; older = with_older x.older r s }))
    older-stored s =
        ap (spliced (record_start n + record_count + record_count + older_start r) 15 s) (from3 x.older)
        ∙ splice-past front3 _ s _ (older_start r) 15 length3 ∙ sym (from3 (with_older x.older r s))
