-- Laws of soundness, on any number of slots: what keeps a side sound, and what a sound slot is known to be. Assumes nothing.
use Prim.Native.Nat.{ℕ, zero, suc, ◌/◌, ◌%◌, ◌^◌, ◌≤◌, ◌<◌}
use mathlib.Core.Path.{◌≡◌, refl, ap, sym, ◌∙◌}
use mathlib.Core.List.{List, map}
use mathlib.Core.Bool.{Bool, true, false, not, ◌&&◌, ◌||◌}
use native.Mathlib.Omega.{arith}
use lib.Dec.{eqb, ltb}
use lib.ListN.{get_or, set, replicate}
use borrow.Author.Tests.{eqb-true, eqb-false, eq-eqb, ne_eqb, lt-ltb, ltb-true, not-true}
use Rattle.laws.specs.Tests.{tick, count, all_of, pairwise}
use Rattle.laws.proofs.Bools.{by-test, clash, both_ways, and_both, and_left, and_right, or-other}
use Rattle.laws.proofs.Counts.{count-one}
use Rattle.laws.proofs.Finds.{count-where}
use Rattle.laws.proofs.Alls.{clear, pair-cons, all_both, all-get, all_map, all_set, pair-map, pair_set}
use Rattle.machine.specs.Pages.{in_range, page_start}
use Rattle.machine.specs.Words.{word_sound}
use Rattle.machine.specs.Slots.{no_slot, is_live, size_code, partition_of, is_real, context_of, owner_word, key_owner, key_address, KeyFits}
use Rattle.machine.specs.Slots.{agrees, holds, is_compared, answers_to, with_used, without_used, set_used, clear_used}
use Rattle.machine.specs.Insertion.{overlaps, emptied_by, removed, entry_of, choice, stored, inserted}
use Rattle.machine.specs.Sound.{owner_sound, page_sound, live_sound, empty_sound, slot_sound, side_sound}
use Rattle.machine.specs.declared.Slot.{Slot}
use Rattle.machine.specs.declared.Key.{Key}
use Rattle.machine.specs.declared.Key.TheVariants.{Virtual, Real}
use Rattle.machine.specs.declared.Choice.{Choice}
use Rattle.machine.specs.declared.Choice.TheVariants.{Empty, Unused, Cleared, Full}
use Rattle.machine.proofs.Pages.{start-start, range-start}
use Rattle.machine.proofs.Insertion.{overlaps-turn, overlaps-sym, pages-meet}

ruleset conj = (and_left, and_right)

-- ---- overlap
-- an emptied slot overlaps none
pub none-overlaps : (x : Slot) → overlaps x no_slot ≡ false
unfolding overlaps
none-overlaps x = overlaps-sym x no_slot

-- ---- a sound slot
-- what a live one is known to be
pub record Live (x : Slot) : Type 0 where
  pub word : word_sound x.word ≡ true
  pub partition : partition_of x < 8
  pub context : context_of x < 2 ^ 13
  pub real : is_real x ≡ true → context_of x ≡ 0
  pub range : in_range x.page ≡ true
  pub start : page_start (size_code x) x.page ≡ x.page
  pub flags : x.flags < 4

live_sound_lem : (x : Slot) → slot_sound x ≡ true → is_live x ≡ true → live_sound x ≡ true
unfolding slot_sound
live_sound_lem x h l = rw l at h

pub live-parts : (x : Slot) → slot_sound x ≡ true → is_live x ≡ true → Live x
unfolding live_sound owner_sound page_sound
live-parts x h l =
    let s : live_sound x ≡ true = live_sound_lem x h l in
    let p : ltb (partition_of x) 8 ≡ true = search conj in
    let r : (not (is_real x) || eqb (context_of x) 0) ≡ true = search conj in
    let a : eqb (page_start (size_code x) x.page) x.page ≡ true = search conj in
    let f : ltb x.flags 4 ≡ true = search conj in
    record {
      word = search conj;
      partition = ltb-true (partition_of x) 8 p;
      context = omega arith;
      real = λ e. eqb-true (context_of x) 0 (or-other (not (is_real x)) _ r (ap not e));
      range = search conj;
      start = eqb-true _ x.page a;
      flags = ltb-true x.flags 4 f;
    }

-- one that is not live is zero
pub dead-zero : (x : Slot) → slot_sound x ≡ true → is_live x ≡ false → x ≡ no_slot
unfolding slot_sound empty_sound
dead-zero x h l =
    let z : empty_sound x ≡ true = rw l at h in
    let a : eqb x.owner 0 ≡ true = search conj in
    let b : eqb x.page 0 ≡ true = search conj in
    let c : eqb x.word 0 ≡ true = search conj in
    let d : eqb x.flags 0 ≡ true = search conj in
    let e : ◌≡◌ {A = Slot} (record { owner = x.owner; page = x.page; word = x.word; flags = x.flags }) no_slot =
    cc (eqb-true x.owner 0 a, eqb-true x.page 0 b, eqb-true x.word 0 c, eqb-true x.flags 0 d) in
    e

pub no_slot-sound : slot_sound no_slot ≡ true
unfolding slot_sound empty_sound
no_slot-sound = refl

-- any flags below 4 will do on a live slot
flagged-sound : (x : Slot) (n : ℕ) → slot_sound x ≡ true → is_live x ≡ true → n < 4
    → slot_sound (record { owner = x.owner; page = x.page; word = x.word; flags = n }) ≡ true
unfolding slot_sound live_sound owner_sound page_sound
flagged-sound x n h l b =
    let s : live_sound x ≡ true = live_sound_lem x h l in
    let w : word_sound x.word ≡ true = search conj in
    let o : owner_sound x ≡ true = search conj in
    let p : page_sound x ≡ true = search conj in
    rw l (and_both _ _ w (and_both _ _ o (and_both _ _ p (lt-ltb n 4 b))))

-- without its used bit
unused-sound : (x : Slot) → slot_sound x ≡ true → slot_sound (without_used x) ≡ true
unused-sound x h =
    by-test (is_live x)
    (λ l. flagged-sound x (without_used x).flags h l (omega arith))
    (λ l. rw (dead-zero x h l) no_slot-sound)

-- emptied by any test
emptied-sound : (q : Slot → Bool) (x : Slot) → slot_sound x ≡ true → slot_sound (emptied_by q x) ≡ true
emptied-sound q x h = by-test (q x) (λ e. rw e no_slot-sound) (λ e. rw e h)

-- a new entry, live and sound
pub entry-live : (key : Key) (locked : Bool) (word : ℕ) → word_sound word ≡ true → is_live (entry_of key locked word) ≡ true
unfolding entry_of word_sound
entry-live key locked word h = search conj

-- the parts of an owner word
pub owner-parts : (partition : ℕ) (real : Bool) (context : ℕ) →
    let owner = owner_word partition real context in
    (owner / 2 ^ 14 ≡ partition % 8) × (owner / 2 ^ 13 % 2 ≡ tick real) × (owner % 2 ^ 13 ≡ context % 2 ^ 13)
owner-parts partition true context = omega arith
owner-parts partition false context = omega arith

entry-owner : (key : Key) (locked : Bool) (word : ℕ) → owner_sound (entry_of key locked word) ≡ true
unfolding entry_of owner_sound
entry-owner (Virtual partition context address) locked word =
    let o = owner-parts partition false context in
    rw (lt-ltb (owner_word partition false context / 2 ^ 14) 8 (omega (arith, o.0)), o.1)
entry-owner (Real partition address) locked word =
    let o = owner-parts partition true 0 in
    rw (lt-ltb (owner_word partition true 0 / 2 ^ 14) 8 (omega (arith, o.0)), o.1, o.2)

pub entry-sound : (key : Key) (locked : Bool) (word : ℕ) → word_sound word ≡ true → in_range (key_address key) ≡ true
    → slot_sound (entry_of key locked word) ≡ true
unfolding slot_sound live_sound page_sound entry_of
entry-sound key locked word h a =
    let code : ℕ = word % 2 ^ 4 in
    let start : in_range (page_start code (key_address key)) ≡ true = range-start code (key_address key) ∙ a in
    rw (entry-live key locked word h, h, entry-owner key locked word, start)
    (and_both _ _ (eq-eqb _ _ (start-start code (key_address key))) (lt-ltb _ 4 (flags locked)))
  where
    -- with the used bit or without
    flags : (b : Bool) → (entry_of key b word).flags < 4
    flags true = omega arith
    flags false = omega arith

-- ---- whose a slot is
-- the owner of a sound slot is sound, an empty one's too
owner_sound_lem : (x : Slot) → slot_sound x ≡ true → owner_sound x ≡ true
unfolding live_sound owner_sound
owner_sound_lem x h = by-test (is_live x)
    (λ l. let s : live_sound x ≡ true = live_sound_lem x h l in search conj)
    (λ l. rw (dead-zero x h l))

-- one comparison of owner words settles partition, real bit and context: a real slot that is sound has context 0
pub owner-agrees : (key : Key) (x : Slot) → KeyFits key → slot_sound x ≡ true → eqb x.owner (key_owner key) ≡ agrees key x
unfolding owner_sound
owner-agrees (Virtual partition context address) x (p, c) h =
    both_ways _ _
    (λ t.
    let e : x.owner ≡ owner_word partition false context = eqb-true _ _ t in
    rw (eq-eqb (partition_of x) partition (omega arith), ne_eqb (x.owner / 2 ^ 13 % 2) 1 (λ r. omega arith)) (eq-eqb (context_of x) context (omega arith)))
    (λ t.
    let a : eqb (partition_of x) partition ≡ true = search conj in
    let b : not (is_real x) ≡ true = search conj in
    let d : eqb (context_of x) context ≡ true = search conj in
    let n : x.owner / 2 ^ 13 % 2 ≡ 1 → ⊥ = eqb-false _ 1 (not-true _ b) in
    eq-eqb x.owner (owner_word partition false context) (omega (arith, eqb-true)))
owner-agrees (Real partition address) x p h =
    both_ways _ _
    (λ t.
    let e : x.owner ≡ owner_word partition true 0 = eqb-true _ _ t in
    rw (eq-eqb (partition_of x) partition (omega arith)) (eq-eqb (x.owner / 2 ^ 13 % 2) 1 (omega arith)))
    (λ t.
    let s : owner_sound x ≡ true = owner_sound_lem x h in
    let a : eqb (partition_of x) partition ≡ true = search conj in
    let b : is_real x ≡ true = search conj in
    let r : (not (is_real x) || eqb (context_of x) 0) ≡ true = search conj in
    let d : eqb (context_of x) 0 ≡ true = or-other (not (is_real x)) _ r (ap not b) in
    eq-eqb x.owner (owner_word partition true 0) (omega (arith, eqb-true)))

pub answers-live : (key : Key) (x : Slot) → answers_to key x ≡ true → is_live x ≡ true
unfolding answers_to is_compared
answers-live key x h = search conj

-- two that answer to one key overlap
answers-overlap : (key : Key) (x y : Slot) → KeyFits key → slot_sound x ≡ true → slot_sound y ≡ true → answers_to key x ≡ true → answers_to key y ≡ true
    → overlaps x y ≡ true
unfolding answers_to is_compared overlaps
answers-overlap key x y f sx sy hx hy =
    let ax : agrees key x ≡ true = search conj in
    let ay : agrees key y ≡ true = search conj in
    let ox : x.owner ≡ key_owner key = eqb-true _ _ (owner-agrees key x f sx ∙ ax) in
    let oy : y.owner ≡ key_owner key = eqb-true _ _ (owner-agrees key y f sy ∙ ay) in
    let px : holds x (key_address key) ≡ true = search conj in
    let py : holds y (key_address key) ≡ true = search conj in
    rw (answers-live key x hx, answers-live key y hy, eq-eqb _ _ (ox ∙ sym oy)) (pages-meet x y (key_address key) px py)

-- ---- a sound side
-- each slot is sound, also the one past the end
pub sound-slot : (s : List Slot) (i : ℕ) → side_sound s ≡ true → slot_sound (get_or s i no_slot) ≡ true
unfolding side_sound
sound-slot s i h = all-get slot_sound no_slot s i no_slot-sound (and_left _ _ h)

-- at most one answers to a key
pub one-answers : (key : Key) (s : List Slot) → KeyFits key → side_sound s ≡ true → count (answers_to key) s ≤ 1
unfolding side_sound
one-answers key s f h =
    let q : Slot → Bool = λ x. slot_sound x && answers_to key x in
    let e : count q s ≡ count (answers_to key) s = count-where slot_sound q (answers_to key) s (and_left _ _ h) (λ x k. rw k) in
    let one : count q s ≤ 1 = count-one overlaps q s both (and_right (all_of slot_sound s) _ h) in
    omega arith
  where
    both : (x y : Slot) → (slot_sound x && answers_to key x) ≡ true → (slot_sound y && answers_to key y) ≡ true → overlaps x y ≡ true
    both x y a b = answers-overlap key x y f (search conj) (search conj) (search conj) (search conj)

-- kept by a map that keeps each slot sound and makes no overlap
sound-map : (g : Slot → Slot) (s : List Slot) → ((x : Slot) → slot_sound x ≡ true → slot_sound (g x) ≡ true)
    → ((x y : Slot) → overlaps (g x) (g y) ≡ true → overlaps x y ≡ true) → side_sound s ≡ true → side_sound (map g s) ≡ true
unfolding side_sound
sound-map g s k o h =
    and_both _ _ (all_map slot_sound slot_sound g s k (and_left _ _ h)) (pair-map overlaps g s o (and_right (all_of slot_sound s) _ h))

-- kept by a store of a sound slot that overlaps only what the slot there before overlapped
sound-set : (p : Slot → Bool) (x : Slot) (s : List Slot) (i : ℕ) → slot_sound x ≡ true
    → ((y : Slot) → p y ≡ true → overlaps x y ≡ true → overlaps (get_or s i no_slot) y ≡ true)
    → all_of p s ≡ true → side_sound s ≡ true → side_sound (set s i x) ≡ true
unfolding side_sound
sound-set p x s i e k g h =
    and_both _ _ (all_set slot_sound s i x e (and_left _ _ h))
    (pair_set overlaps no_slot x p s i overlaps-sym none-overlaps k g (and_right (all_of slot_sound s) _ h))

pub empty_sound_lem : (n : ℕ) → side_sound (replicate n no_slot) ≡ true
unfolding side_sound all_of pairwise overlaps
empty_sound_lem zero = refl
empty_sound_lem (suc n) =
    let s : List Slot = replicate n no_slot in
    let a : all_of slot_sound s ≡ true = and_left _ _ (empty_sound_lem n) in
    and_both _ _ (and_both _ _ no_slot-sound a)
    (pair-cons overlaps no_slot s
    ∙ and_both _ _ (all_both slot_sound slot_sound (clear overlaps no_slot) s (λ y _ _. refl) a a) (and_right (all_of slot_sound s) _ (empty_sound_lem n)))

-- ---- what keeps a side sound
-- a removal
emptied-overlaps : (q : Slot → Bool) (x y : Slot) → overlaps (emptied_by q x) y ≡ true → overlaps x y ≡ true
emptied-overlaps q x y h =
    by-test (q x)
    (λ e. clash (rw e at h) (overlaps-sym no_slot y ∙ none-overlaps y))
    (λ e. rw e at h)

pub sound-removed : (q : Slot → Bool) (s : List Slot) → side_sound s ≡ true → side_sound (removed q s) ≡ true
sound-removed q s h =
    sound-map (emptied_by q) s (emptied-sound q)
    (λ x y e. overlaps-turn y x (emptied-overlaps q y x (overlaps-turn x (emptied_by q y) (emptied-overlaps q x (emptied_by q y) e)))) h

-- a used bit, set
pub sound-set_used : (s : List Slot) (i : ℕ) → side_sound s ≡ true → is_live (get_or s i no_slot) ≡ true → side_sound (set_used i s) ≡ true
unfolding overlaps side_sound
sound-set_used s i h l =
    let x : Slot = get_or s i no_slot in
    sound-set slot_sound (with_used x) s i (flagged-sound x (with_used x).flags (sound-slot s i h) l (omega arith)) (λ y _ e. e) (and_left _ _ h) h

-- all used bits, cleared
pub sound-clear_used : (s : List Slot) → side_sound s ≡ true → side_sound (clear_used s) ≡ true
unfolding overlaps
sound-clear_used s h = sound-map without_used s unused-sound (λ x y e. e) h

-- an insertion: once what the new slot overlaps is removed it may stand anywhere
module _ (new : Slot) (e : slot_sound new ≡ true) where
  abbrev apart : Slot → Bool
  apart y = not (overlaps new y)

  sound-put : (s : List Slot) (i : ℕ) → all_of apart s ≡ true → side_sound s ≡ true → side_sound (set s i new) ≡ true
  sound-put s i g h = sound-set apart new s i e (λ y n t. clash t (not-true _ n)) g h

  sound-stored : (s : List Slot) (c : Choice) → all_of apart s ≡ true → side_sound s ≡ true → side_sound (stored new s c) ≡ true
  unfolding overlaps
  sound-stored s (Empty i) g h = sound-put s i g h
  sound-stored s (Unused i) g h = sound-put s i g h
  sound-stored s (Cleared i) g h = sound-put (clear_used s) i (all_map apart apart without_used s (λ y n. n) g) (sound-clear_used s h)
  sound-stored s Full g h = h

  pub sound-inserted : (cand : Slot → Bool) (s : List Slot) → side_sound s ≡ true → side_sound (inserted cand new s) ≡ true
  unfolding inserted side_sound
  sound-inserted cand s h =
      let kept : List Slot = removed (overlaps new) s in
      sound-stored kept (choice cand kept)
      (all_map slot_sound apart (emptied_by (overlaps new)) s
      (λ y _. by-test (overlaps new y) (λ t. rw t (ap not (none-overlaps new))) (λ t. rw t (ap not t)))
      (and_left _ _ h))
      (sound-removed (overlaps new) s h)
