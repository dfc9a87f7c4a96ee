-- Laws of the state: the register file, the words that hold a state, and soundness, taken apart. Over any number of slots.
-- Assumes nothing.
use Rattle.std.proofs.Common.{Ok, Err}
use Prim.Native.Nat.{ℕ, ◌+◌, ◌*◌, ◌%◌, ◌^◌, ◌≤◌, ◌<◌}
use mathlib.Core.Path.{◌≡◌, refl, ap, sym, ◌∙◌}
use mathlib.Core.Bool.{Bool, true, false, cond, ◌&&◌}
use mathlib.Core.List.{List, [], ◌∷◌, ◌++◌, append_assoc}
use native.Mathlib.Omega.{arith}
use lib.Dec.{eqb, ltb}
use lib.ListN.{length, get_or, set, take, drop, replicate, length-set, length-append, length-drop, length-replicate, take-append-drop}
use lib.Seq.{take_at, drop_at, drop-drop, length-take-le, get_or-set_same, get_or-set_other}
use borrow.Author.Tests.{eq-eqb, eqb-true, eqb-false, lt-ltb, le-ltb, ltb-true}
use Rattle.laws.specs.Tests.{all_below, all_of}
use Rattle.laws.proofs.Bools.{by-test, clash, and_both, and_left, and_right}
use Rattle.laws.proofs.Belows.{below_at, below-change}
use Rattle.machine.specs.Pages.{in_range, listed}
use Rattle.machine.specs.Words.{bits, word_insertable}
use Rattle.machine.specs.Slots.{slots_of, words_of, no_slot, key_address}
use Rattle.machine.specs.Insertion.{candidate, has_slot}
use Rattle.machine.specs.Sound.{slot_sound, side_sound}
use Rattle.machine.specs.Registers.{register_words, cell, register, with_register, partition, mode, address_mask}
use Rattle.machine.specs.Registers.{selected, tag_access, tag_address, tag_context, known, writable, base_allowed}
use Rattle.machine.specs.Registers.{configuration_allowed, allowed, registers_sound, reset_strands}
use Rattle.machine.specs.Record.{Records, record_count, older_start, record_sound, records_sound}
use Rattle.machine.specs.State.{slot_count, Counts, State, side_of, record_start, state_words, state_of}
use Rattle.machine.specs.State.{encode, reset, side_fits, sound, words_sound}
use Rattle.machine.specs.Questions.{Question, kind_side, flag_real, flag_locked, key_of, insertion, asked_insertion, asked, ask, verdict}
use Rattle.machine.specs.declared.VirtualAddress.{VirtualAddress}
use Rattle.machine.specs.Step.{act, insert_step}
use Rattle.machine.specs.declared.Slot.{Slot}
use Rattle.machine.specs.declared.Command.{Command}
use Rattle.machine.specs.declared.Command.TheVariants as command
use Rattle.machine.proofs.Words.{insertable-sound}
use Rattle.machine.proofs.Slots.{words_back, slots-back, words-length}
use Rattle.machine.proofs.Insertion.{no_slot_lem}
use Rattle.machine.proofs.Sound.{entry-sound, empty_sound_lem}

ruleset conj = (and_left, and_right, eqb-true, ltb-true)

-- ---- the register file
-- a register read after a write: strands and numbers have cells of their own
pub register-written : (file : List ℕ) (strand number value s r : ℕ) → cell strand number < length file → number < 32 → r < 32
    → register (with_register file strand number value) s r ≡ cond (eqb s strand && eqb r number) value (register file s r)
register-written file strand number value s r l h k =
    by-test (eqb s strand && eqb r number)
    (λ e.
    let a : s ≡ strand = search conj in
    let b : r ≡ number = search conj in
    rw (e, a, b) (get_or-set_same file (cell strand number) value 0 l))
    (λ e. rw e (get_or-set_other file (cell strand number) (cell s r) value 0 (λ q.
    clash (and_both _ _ (eq-eqb s strand (omega arith)) (eq-eqb r number (omega arith))) e)))

pub sound-file : (file : List ℕ) → registers_sound file ≡ true → length file ≡ register_words
unfolding registers_sound
sound-file file h = search conj

pub allowed_at : (file : List ℕ) (strand number : ℕ) → registers_sound file ≡ true → strand < 4 → number < 32
    → allowed number (register file strand number) ≡ true
unfolding registers_sound
allowed_at file strand number h s r =
    let m : cell strand number % 32 ≡ number = omega arith in
    rw m at (below_at (λ i. allowed (i % 32) (get_or file i 0)) register_words (cell strand number) (and_right (eqb (length file) register_words) _ h)
    (omega arith))

-- a write of an allowed value
pub registers-written : (file : List ℕ) (strand number value : ℕ) → registers_sound file ≡ true → strand < 4 → number < 32 → allowed number value ≡ true
    → registers_sound (with_register file strand number value) ≡ true
unfolding registers_sound
registers-written file strand number value h s r v =
    let c : ℕ = cell strand number in
    let m : c % 32 ≡ number = omega arith in
    let l : length file ≡ register_words = sound-file file h in
    let same : get_or (set file c value) c 0 ≡ value = get_or-set_same file c value 0 (omega arith) in
    and_both _ _ (eq-eqb _ _ (length-set file c value ∙ l))
    (below-change (λ i. allowed (i % 32) (get_or file i 0)) _ register_words c
    (rw (m, same) v)
    (λ i d. rw (get_or-set_other file c i value 0 d))
    (and_right (eqb (length file) register_words) _ h))

-- what may stand in the registers from 16 on
allowed-high : (number value : ℕ) → 16 ≤ number
    → allowed number value ≡ cond (ltb number 20) (configuration_allowed value) (cond (ltb number 26) true (eqb value 0))
unfolding allowed
allowed-high number value h =
    let past : (k : ℕ) → k ≤ 16 → ltb number k ≡ false = λ k l. le-ltb number k (omega arith) in
    rw (
      past 1 (omega arith),
      past 3 (omega arith),
      past 4 (omega arith),
      past 5 (omega arith),
      past 6 (omega arith),
      past 8 (omega arith),
      past 16
          (omega arith),
    )

-- any value, in tag access and the registers that a trap writes
pub allowed-any : (number value : ℕ) → 20 ≤ number → number < 26 → allowed number value ≡ true
allowed-any number value h k = allowed-high number value (omega arith) ∙ rw (le-ltb number 20 h, lt-ltb number 26 k)

-- both size codes of a configuration register are listed
pub configuration-listed : (file : List ℕ) (strand number size : ℕ) → registers_sound file ≡ true → strand < 4 → 16 ≤ number → number < 20 → size < 2
    → listed (bits (8 * size) 3 (register file strand number)) ≡ true
unfolding configuration_allowed
configuration-listed file strand number size h s l k z =
    let v : ℕ = register file strand number in
    let a : configuration_allowed v ≡ true = rw (allowed-high number v l, lt-ltb number 20 k) at (allowed_at file strand number h s (omega arith)) in
    let e : bits 0 3 v ≡ v % 2 ^ 3 = omega arith in
    let low : listed (bits 0 3 v) ≡ true = rw e (search conj) in
    let high : listed (bits 8 3 v) ≡ true = search conj in
    by-test (eqb size 0) (λ t. rw (eqb-true size 0 t) low) (λ t. let one : size ≡ 1 = omega (arith, eqb-false size 0 t) in rw one high)

-- the registers of a strand
pub record StrandSound (file : List ℕ) (strand : ℕ) : Type 0 where
  pub partitions : partition file strand < 8
  pub contexts : (selector : ℕ) → selected file strand selector < 8192
  pub modes : mode file strand < 3
  pub translation : register file strand 4 < 4
  pub mask : address_mask file strand < 2

pub strand-sound : (file : List ℕ) (strand : ℕ) → registers_sound file ≡ true → strand < 4 → StrandSound file strand
unfolding allowed
strand-sound file strand h s =
    let at : (number : ℕ) → number < 32 → allowed number (register file strand number) ≡ true = λ number. allowed_at file strand number h s in
    record {
      partitions = ltb-true _ 8 (at 0 (omega arith));
      contexts = λ selector. by-test (eqb selector 2) (λ e. rw e (omega arith)) (λ e. by-test (eqb selector 1)
          (λ f. rw (e, f) (ltb-true _ 8192 (at 2 (omega arith))))
          (λ f. rw (e, f) (ltb-true _ 8192 (at 1 (omega arith)))));
      modes = ltb-true _ 3 (at 3 (omega arith));
      translation = ltb-true _ 4 (at 4 (omega arith));
      mask = ltb-true _ 2 (at 5 (omega arith));
    }

-- ---- soundness, taken apart
-- a state with as many registers, slots and words of records as it should have
pub record Sized (n : Counts) (u : State) : Type 0 where
  pub registers : length u.registers ≡ register_words
  pub itlb : length u.itlb ≡ n.itlb
  pub dtlb : length u.dtlb ≡ n.dtlb
  pub seen : length u.records.seen ≡ record_count
  pub newest : length u.records.newest ≡ record_count
  pub older : length u.records.older ≡ older_start record_count

module _ (n : Counts) (u : State) (h : sound n u ≡ true) where
  pub sound-registers : registers_sound u.registers ≡ true
  unfolding sound
  sound-registers = search conj

  -- either side has its slots and is sound
  pub sound-side : (side : ℕ) → (length (side_of u side) ≡ slot_count n side) × (side_sound (side_of u side) ≡ true)
  unfolding sound side_fits
  sound-side side = by-test (eqb side 0) (λ e. rw e (search conj, search conj)) (λ e. rw e (search conj, search conj))

  pub sound-records : records_sound u.records ≡ true
  unfolding sound
  sound-records = search conj

  pub sound-sized : Sized n u
  unfolding records_sound
  sound-sized = record {
    registers = sound-file u.registers sound-registers;
    itlb = (sound-side 0).0;
    dtlb = (sound-side 1).0;
    seen = let h = sound-records in search conj;
    newest = let h = sound-records in search conj;
    older = let h = sound-records in search conj;
  }

-- ---- a state and its words
pub encode-length : (n : Counts) (u : State) → Sized n u → length (encode u) ≡ state_words n
unfolding encode
encode-length n u z =
    simp length-append
    (omega (arith, words-length u.itlb, words-length u.dtlb, z.registers, z.itlb, z.dtlb, z.seen, z.newest, z.older))

-- the part of k words behind the first a
part_at : (p q r : List ℕ) (a k : ℕ) → length p ≡ a → length q ≡ k → take k (drop a (p ++ (q ++ r))) ≡ q
part_at p q r a k h l = ap (take k) (drop_at p (q ++ r) a h) ∙ take_at q r k l

pub state-encode : (n : Counts) (u : State) → Sized n u → state_of n (encode u) ≡ u
unfolding state_of encode
state-encode n u z =
    let x : Records = u.records in
    let i : List ℕ = words_of u.itlb in
    let d : List ℕ = words_of u.dtlb in
    let records : List ℕ = x.seen ++ (x.newest ++ x.older) in
    let front2 : List ℕ = u.registers ++ i in
    let front3 : List ℕ = front2 ++ d in
    let front4 : List ℕ = front3 ++ x.seen in
    let li : length i ≡ n.itlb * 4 = omega (arith, words-length u.itlb, z.itlb) in
    let ld : length d ≡ n.dtlb * 4 = omega (arith, words-length u.dtlb, z.dtlb) in
    let l2 : length front2 ≡ register_words + n.itlb * 4 = length-append u.registers i ∙ omega (arith, z.registers) in
    let l3 : length front3 ≡ record_start n = length-append front2 d ∙ omega arith in
    let l4 : length front4 ≡ record_start n + record_count = length-append front3 x.seen ∙ omega (arith, z.seen) in
    let l5 : length (front4 ++ x.newest) ≡ record_start n + record_count + record_count = length-append front4 x.newest ∙ omega (arith, z.newest) in
    let e2 : encode u ≡ front2 ++ (d ++ records) = sym (append_assoc u.registers i (d ++ records)) in
    let e3 : encode u ≡ front3 ++ records = e2 ∙ sym (append_assoc front2 d records) in
    let e4 : encode u ≡ front4 ++ (x.newest ++ x.older) = e3 ∙ sym (append_assoc front3 x.seen (x.newest ++ x.older)) in
    let e5 : encode u ≡ (front4 ++ x.newest) ++ x.older = e4 ∙ sym (append_assoc front4 x.newest x.older) in
    let registers : take register_words (encode u) ≡ u.registers = take_at u.registers _ register_words z.registers in
    let itlb : take (n.itlb * 4) (drop register_words (encode u)) ≡ i = part_at u.registers i (d ++ records) _ _ z.registers li in
    let dtlb : take (n.dtlb * 4) (drop (register_words + n.itlb * 4) (encode u)) ≡ d = rw e2 (part_at front2 d records _ _ l2 ld) in
    let seen : take record_count (drop (record_start n) (encode u)) ≡ x.seen = rw e3 (part_at front3 x.seen _ _ _ l3 z.seen) in
    let newest : take record_count (drop (record_start n + record_count) (encode u)) ≡ x.newest =
    rw e4 (part_at front4 x.newest x.older _ _ l4 z.newest) in
    let older : drop (record_start n + record_count + record_count) (encode u) ≡ x.older = rw e5 (drop_at (front4 ++ x.newest) x.older _ l5) in
    rw (registers, itlb, dtlb, seen, newest, older, slots-back u.itlb, slots-back u.dtlb)

-- a part and what is behind it
pub cut : (a k : ℕ) (words : List ℕ) → take k (drop a words) ++ drop (a + k) words ≡ drop a words
cut a k words = ap (λ (r : List ℕ). take k (drop a words) ++ r) (sym (drop-drop k a words)) ∙ take-append-drop k (drop a words)

pub encode-state : (n : Counts) (words : List ℕ) → length words ≡ state_words n → encode (state_of n words) ≡ words
unfolding state_of encode
encode-state n words h =
    let start : ℕ = record_start n in
    let side : (a k : ℕ) → a + k * 4 ≤ length words → words_of (slots_of (take (k * 4) (drop a words))) ≡ take (k * 4) (drop a words) =
    λ a k l. words_back (take (k * 4) (drop a words)) (omega (arith, length-take-le (k * 4) (drop a words) (omega (arith, length-drop a words)))) in
    rw (
      side register_words n.itlb (omega arith),
      side (register_words + n.itlb * 4) n.dtlb (omega arith),
      cut (start + record_count) record_count words,
      cut start record_count words,
      cut (register_words + n.itlb * 4) (n.dtlb * 4) words,
      cut register_words (n.itlb * 4) words,
    )
    (take-append-drop register_words words)

-- a sound state stands in words that are sound
pub sound-encode : (n : Counts) (u : State) → sound n u ≡ true → state_of n (encode u) ≡ u
sound-encode n u h = state-encode n u (sound-sized n u h)

pub words_sound_lem : (n : Counts) (u : State) → sound n u ≡ true → words_sound n (encode u) ≡ true
unfolding words_sound
words_sound_lem n u h = and_both _ _ (eq-eqb _ _ (encode-length n u (sound-sized n u h))) (rw (sound-encode n u h) h)

pub sound-words : (n : Counts) (words : List ℕ) → words_sound n words ≡ true → (sound n (state_of n words) ≡ true) × (length words ≡ state_words n)
unfolding words_sound
sound-words n words h = (and_right (eqb (length words) (state_words n)) _ h, eqb-true _ _ (and_left _ (sound n (state_of n words)) h))

-- ---- reset
pub reset-sound : (n : Counts) → sound n (reset n) ≡ true
unfolding sound reset side_fits registers_sound all_below allowed configuration_allowed listed reset_strands base_allowed records_sound record_sound
reset-sound n = and_both _ _ refl (and_both _ _ (side n.itlb) (and_both _ _ (side n.dtlb) refl))
  where
    side : (k : ℕ) → (eqb (length (replicate k no_slot)) k && side_sound (replicate k no_slot)) ≡ true
    side k = and_both _ _ (eq-eqb _ _ (length-replicate k no_slot)) (empty_sound_lem k)

-- ---- what a command that passed was asked
abbrev pub is_fine : Question → Bool
is_fine q = q.fine

pub ask-fine : (qs : List Question) → ask qs ≡ Ok tt → all_of is_fine qs ≡ true
unfolding ask all_of
ask-fine [] h = refl
ask-fine (q ∷ qs) h = by-test q.fine
    (λ e. and_both _ _ e (ask-fine qs (rw e at h)))
    (λ e. let r : Err q.refusal ≡ Ok tt = rw e at h in absurd (let z : ◌≡◌ {A = ℕ} 0 1 = cc in omega arith))

pub passed-asked : (hv : Bool) (u : State) (c : Command) → verdict hv u c ≡ Ok tt → all_of is_fine (asked hv u c) ≡ true
unfolding verdict
passed-asked hv u c h = ask-fine (asked hv u c) h

-- .. and of an insertion, what 11 to 13 let pass
pub record Insertable (u : State) (strand side flags word : ℕ) : Type 0 where
  pub address : in_range (tag_address (tag_access u.registers strand side)).0 ≡ true
  pub tte : word_insertable word ≡ true
  pub slot : has_slot candidate (insertion u strand side flags word) (side_of u side) ≡ true

pub insertable : (u : State) (strand side flags word : ℕ) → ask (asked_insertion u strand side flags word) ≡ Ok tt → Insertable u strand side flags word
unfolding asked_insertion all_of
insertable u strand side flags word h =
    let q = ask-fine (asked_insertion u strand side flags word) h in
    record { address = search conj; tte = search conj; slot = search conj }

pub insert-insertable : (hv : Bool) (u : State) (strand side flags word : ℕ) → verdict hv u (command.Insert strand side flags word) ≡ Ok tt
    → (strand < 4) × (side < 2) × Insertable u strand side flags word
unfolding asked asked_insertion all_of
insert-insertable hv u strand side flags word h =
    let q = passed-asked hv u (command.Insert strand side flags word) h in
    (search conj, search conj, record { address = search conj; tte = search conj depth 6; slot = search conj depth 7 })

-- number 13 asks what the insertion would come to: one that 11 and 12 let pass may act unasked
pub insert-acts : (u : State) (strand side flags word : ℕ) → in_range (tag_address (tag_access u.registers strand side)).0 ≡ true
    → word_insertable word ≡ true → insert_step u strand side flags word ≡ act u (command.Insert strand side flags word)
unfolding insert_step asked_insertion ask act
insert-acts u strand side flags word a w =
    let new : Slot = insertion u strand side flags word in
    rw (a, w) (by-test (has_slot candidate new (side_of u side))
    (λ t. rw t)
    (λ t. let (p, i) = no_slot_lem candidate new (side_of u side) t in rw (t, p, i) (by-test (eqb side 0) (λ z. rw z) (λ z. rw z))))

pub known-below : (number : ℕ) → known number ≡ true → number < 26
unfolding known
known-below number h = by-test (ltb number 6)
    (λ e. omega (arith, ltb-true number 6 e))
    (λ e. by-test (ltb number 8) (λ f. clash (rw (e, f) at h) refl) (λ f. ltb-true number 26 (rw (e, f) at h)))

pub writable-below : (number : ℕ) → writable number ≡ true → number < 22
unfolding writable
writable-below number h = ltb-true number 22 (and_left _ (known number) h)

-- ---- the slot of an insertion
pub key_address_lem : (real : Bool) (partition context : ℕ) (address : VirtualAddress) → key_address (key_of real partition context address) ≡ address.0
key_address_lem true partition context address = refl
key_address_lem false partition context address = refl

-- the slot of an insertion whose word and address passed
pub insertion-sound : (u : State) (strand side flags word : ℕ) → in_range (tag_address (tag_access u.registers strand side)).0 ≡ true
    → word_insertable word ≡ true
    → slot_sound (insertion u strand side flags word) ≡ true
insertion-sound u strand side flags word a w =
    let tag : ℕ = tag_access u.registers strand side in
    entry-sound (key_of (flag_real flags) (partition u.registers strand) (tag_context tag) (tag_address tag)) (flag_locked flags) word (insertable-sound word w)
    (ap in_range (key_address_lem (flag_real flags) (partition u.registers strand) (tag_context tag) (tag_address tag)) ∙ a)

pub kind_side_lem : (kind : ℕ) → kind_side kind < 2
kind_side_lem kind = by-test (eqb kind 0) (λ e. rw e (omega arith)) (λ e. rw e (omega arith))
