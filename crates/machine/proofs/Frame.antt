-- What can take a live entry from a side of the unit: nothing but the commands of `Removes`, over any number of slots.
-- An entry holds its word, so a live entry's word never changes in place: it stays as it is, or it is taken.
-- Assumes nothing.
use Rattle.std.proofs.Common.{Some, None, Ok, Err, Option, Result}
use Prim.Native.Nat.{ℕ, zero, suc, ◌+◌, ◌/◌, ◌%◌, ◌^◌, ◌≤◌, ◌<◌}
use mathlib.Core.Path.{◌≡◌, refl, ap, sym, ◌∙◌}
use mathlib.Core.Bool.{Bool, true, false, not, ◌&&◌}
use mathlib.Core.List.{List}
use mathlib.Core.Logic.{◌⊎◌, inl, inr, ⊎_elim}
use native.Mathlib.Omega.{arith}
use native.Mathlib.Nat.{mod-eq_of_lt}
use lib.Dec.{eqb, ltb}
use lib.ListN.{length, get_or, get_or-eq_default}
use borrow.Author.Tests.{eqb-true, ltb-true, ltb-false, not-true}
use Rattle.laws.specs.Tests.{tick, count, any_of, all_of}
use Rattle.laws.proofs.Bools.{by-test, clash, and_both, and_left, and_right}
use Rattle.laws.proofs.Counts.{count_at, none-count}
use Rattle.laws.proofs.Finds.{count_index}
use Rattle.machine.specs.Words.{word_insertable}
use Rattle.machine.specs.Slots.{no_slot, is_live, partition_of, key_owner, Looked, hit as hit_at, miss, lookup, with_used, without_used, set_used}
use Rattle.machine.specs.Insertion.{overlaps, removed, removes, is_empty, candidate, entry_of, inserted, placed}
use Rattle.machine.specs.Sound.{slot_sound, side_sound}
use Rattle.machine.specs.Registers.{partition}
use Rattle.machine.specs.State.{Counts, State, side_of, with_side, sound}
use Rattle.machine.specs.Questions.{flag_real, flag_locked, key_of, insertion, asked_insertion, asked, ask, verdict}
use Rattle.machine.specs.Access.{Stepped, access_of, lookup_key, prepare, translated_by, settle_judged, settle_looked, settle, judge}
use Rattle.machine.specs.declared.VirtualAddress.{VirtualAddress}
use Rattle.machine.specs.declared.Access.{Access}
use Rattle.machine.specs.declared.Translation.{Translation}
use Rattle.machine.specs.declared.Prepared.{Prepared}
use Rattle.machine.specs.declared.Prepared.TheVariants as prepared
use Rattle.machine.specs.Step.{act, step_by, step, insert_step}
use Rattle.machine.specs.Ledger.{Entry, overlap, unlocked, is_of, is_at, in_context, in_partition, Miss}
use Rattle.machine.specs.Frame.{Framed, entry_in}
use Rattle.machine.specs.Frame.{LivesIn, Lives, Removes, invalidated, overlapped, demapped_page, demapped_context, demapped_all, displaced}
use Rattle.machine.specs.declared.Slot.{Slot}
use Rattle.machine.specs.declared.Command.{Command}
use Rattle.machine.specs.declared.Command.TheVariants as command
use Rattle.machine.proofs.Words.{insertable-sound}
use Rattle.machine.proofs.Insertion.{count-removed, count_set-used, displaced_share, new_share, count-inserted, PlacedSays, placed-says}
use Rattle.machine.proofs.Sound.{entry-live, owner-parts, sound-slot}
use Rattle.machine.proofs.Good.{state-alike}
use Rattle.machine.proofs.Misses.{MissAlike, refuses, lacks, inserts, miss-alike}
use Rattle.machine.proofs.State.{StrandSound, strand-sound, sound-registers, sound-side, passed-asked, insertion-sound, kind_side_lem}
use Rattle.machine.proofs.State.{Insertable, insertable, insert-insertable}
use Rattle.machine.proofs.Alike.{hit}
use Rattle.machine.proofs.Sides.{SameTest, overlap-test, page-test, context-test, partition-test, live_test, same_entry, entry-self, entry-same}
use Rattle.machine.specs.declared.Refusal.{Refusal}
use Rattle.machine.specs.declared.Trap.{Trap}
use Rattle.machine.specs.declared.NoSlot.{NoSlot}

ruleset conj = (and_left, and_right, eqb-true, ltb-true)

-- ---- one side: a live entry is a count
-- past the end no slot is live
live-within : (s : List Slot) (i : ℕ) → is_live (get_or s i no_slot) ≡ true → i < length s
live-within s i l = by-test (ltb i (length s)) (ltb-true _ _) (λ t. clash l (rw (get_or-eq_default s no_slot (ltb-false _ _ t))))

-- where it is counted it lives
pub count-lives : (s : List Slot) (e : Entry) → 1 ≤ count (hit (same_entry e)) s → LivesIn s e
count-lives s e c =
    let (i, w, t) = count_index (hit (same_entry e)) s no_slot c in
    (i, and_left _ _ t, sym (entry-same e _ (and_right (is_live (get_or s i no_slot)) _ t)))

module _ (s : List Slot) (e : Entry) (h : LivesIn s e) where
  abbrev slot : Slot
  slot = get_or s h.0 no_slot

  -- a test that the entry's slot passes counts it
  pub lives-count : (p : Slot → Bool) → p slot ≡ true → 1 ≤ count p s
  lives-count p t = count_at p s h.0 no_slot (live-within s h.0 h.1) t

  -- it is itself
  pub lives-same : hit (same_entry e) slot ≡ true
  lives-same = and_both _ _ h.1 (rw h.2 (entry-self e))

  -- a used bit, set
  pub used-frame : (i : ℕ) → LivesIn (set_used i s) e
  used-frame i =
      let c : count (hit (same_entry e)) (set_used i s) ≡ count (hit (same_entry e)) s =
      count_set-used (hit (same_entry e)) (λ x. let used : (with_used x).flags % 2 ≡ x.flags % 2 = omega arith in rw used) s i in
      count-lives (set_used i s) e (omega (arith, lives-count (hit (same_entry e)) lives-same))

  module _ (k : side_sound s ≡ true) where
    -- what a test says of the slot it says of the entry
    test-slot : {q : Slot → Bool} {p : Entry → Bool} → SameTest q p → q slot ≡ p e
    test-slot {p} t = t.agree _ (sound-slot s h.0 k) h.1 ∙ ap p h.2

    -- the entry is counted among those that a test passes by, or is one that it takes
    spared : {q : Slot → Bool} {p : Entry → Bool} → SameTest q p → (1 ≤ count (λ x. not (q x) && hit (same_entry e) x) s) ⊎ (p e ≡ true)
    spared {q} {p} t =
        by-test (p e) inr (λ f. inl (lives-count (λ x. not (q x) && hit (same_entry e) x) (and_both _ _ (ap not (test-slot t ∙ f)) lives-same)))

    -- a removal
    pub removed-frame : {q : Slot → Bool} {p : Entry → Bool} → SameTest q p → LivesIn (removed q s) e ⊎ (p e ≡ true)
    removed-frame {q} t = ⊎_elim (λ c. inl (count-lives (removed q s) e (rw (count-removed q (hit (same_entry e)) refl s) c))) inr (spared t)

-- an insertion of a new entry that is sound
module _ (s : List Slot) (k : side_sound s ≡ true) (new : Slot) (a : slot_sound new ≡ true) (l : is_live new ≡ true) where
  abbrev Apart : Type 0
  Apart = (x : Entry) → LivesIn s x → overlap (entry_in new) x ≡ false

  apart-lives : any_of (overlaps new) s ≡ false → Apart
  apart-lives f x h =
      by-test (overlap (entry_in new) x)
      (λ t. absurd (omega (arith, none-count (overlaps new) s f, lives-count s x h (overlaps new) (test-slot s x h k (overlap-test new a l) ∙ t))))
      (λ t. t)

  module _ (e : Entry) (h : LivesIn s e) where
    abbrev same : Slot → Bool
    same = hit (same_entry e)

    abbrev left : ℕ
    left = count (λ x. not (overlaps new x) && same x) s

    abbrev Kept : Type 0
    Kept = LivesIn (inserted candidate new s) e ⊎ ((overlap (entry_in new) e ≡ true) ⊎ ((any_of is_empty s ≡ false) × Apart × (unlocked e ≡ true)))

    placed-frame : 1 ≤ left → (r : Result (Option Slot) NoSlot) → PlacedSays candidate new s r
        → count same (inserted candidate new s) + displaced_share same r ≡ left + new_share same new r → Kept
    placed-frame c (Ok None) w f = inl (count-lives (inserted candidate new s) e (omega arith))
    placed-frame c (Ok (Some d)) w f = by-test (same d)
        (λ t.
        let g : e ≡ entry_in d = entry-same e _ (and_right (is_live d) _ t) in
        inr (inr (w.full, apart-lives w.apart, rw g (and_right (is_live d) _ w.allowed))))
        (λ t. inl (count-lives (inserted candidate new s) e (omega (arith, ap tick t))))
    placed-frame c (Err _) w f = inl (count-lives (inserted candidate new s) e (omega arith))

    -- what does not overlap it and is not displaced stays
    pub inserted-frame : Kept
    inserted-frame =
        ⊎_elim
        (λ c. placed-frame c (placed candidate new s) (placed-says candidate new s)
        (count-inserted same (λ x t. rw (not-true (is_live x) t)) (λ x. let lock : (without_used x).flags % 2 ≡ x.flags % 2 = omega arith in rw lock)
        candidate new s))
        (λ t. inr (inl t))
        (spared s e h k (overlap-test new a l))

-- ---- a command on one side
-- the other side is as it was
with_side_lem : (P : List Slot → Type 0) (u : State) (s : List Slot) (other side : ℕ) → other < 2 → side < 2
    → P (side_of u side) → (other ≡ side → P s) → P (side_of (with_side u other s) side)
with_side_lem P u s zero zero a b h k = k refl
with_side_lem P u s zero (suc zero) a b h k = h
with_side_lem P u s (suc zero) zero a b h k = h
with_side_lem P u s (suc zero) (suc zero) a b h k = k refl
with_side_lem P u s zero (suc (suc i)) a b h k = absurd (omega arith)
with_side_lem P u s (suc zero) (suc (suc i)) a b h k = absurd (omega arith)
with_side_lem P u s (suc (suc i)) side a b h k = absurd (omega arith)

-- a new entry is live, and of the strand's partition
insertion-live : (u : State) (strand side flags word : ℕ) → word_insertable word ≡ true → is_live (insertion u strand side flags word) ≡ true
insertion-live u strand side flags word w = entry-live _ (flag_locked flags) word (insertable-sound word w)

insertion-partition : (u : State) (strand side flags word : ℕ) → partition u.registers strand < 8
    → partition_of (insertion u strand side flags word) ≡ partition u.registers strand
unfolding entry_of
insertion-partition u strand side flags word h = go (flag_real flags) _ _ ∙ mod-eq_of_lt h
  where
    go : (real : Bool) (context : ℕ) (address : VirtualAddress)
        → key_owner (key_of real (partition u.registers strand) context address) / 2 ^ 14 ≡ partition u.registers strand % 8
    go true context address = (owner-parts _ true 0).0
    go false context address = (owner-parts _ false context).0

-- what the tests of the demaps ask first
of-partition : (e : Entry) {p : ℕ} (r : Bool) → (eqb e.partition p && r) ≡ true → p ≡ e.partition
of-partition e r t = sym (eqb-true _ _ (and_left _ r t))

module _ (n : Counts) (u : State) (side : ℕ) (e : Entry) (h : sound n u ≡ true) (b : side < 2) (l : Lives u side e) where
  -- a removal by a test, with R what follows where the entry is taken
  demap-frame : {R : Type 0} {q : Slot → Bool} {p : Entry → Bool} (other : ℕ) → other < 2 → SameTest q p → (other ≡ side → p e ≡ true → R)
      → Lives (with_side u other (removed q (side_of u other))) side e ⊎ R
  demap-frame {R} other o t r =
      with_side_lem (λ s. LivesIn s e ⊎ R) u _ other side o b (inl l)
      (λ q. rw q (⊎_elim inl (λ g. inr (r q g)) (removed-frame (side_of u side) e l (sound-side n u h side).1 t)))

  -- an insertion that passed, on this side and on either
  side-frame : (strand flags word : ℕ) → strand < 4 → Insertable u strand side flags word
      → LivesIn (inserted candidate (insertion u strand side flags word) (side_of u side)) e ⊎ Removes u side e (command.Insert strand side flags word)
  unfolding overlap
  side-frame strand flags word s i =
      let new : Slot = insertion u strand side flags word in
      let p : partition_of new ≡ partition u.registers strand =
      insertion-partition u strand side flags word (strand-sound u.registers strand (sound-registers n u h) s).partitions in
      ⊎_elim inl
      (λ r. inr (⊎_elim (λ t. overlapped (sym p ∙ search conj) t) (λ t. displaced t.0 t.1 t.2) r))
      (inserted-frame (side_of u side) (sound-side n u h side).1 new (insertion-sound u strand side flags word i.address i.tte)
      (insertion-live u strand side flags word i.tte) e l)

  pub insert-frame : (strand other flags word : ℕ) → strand < 4 → other < 2 → Insertable u strand other flags word
      → Lives (act u (command.Insert strand other flags word)).state side e ⊎ Removes u side e (command.Insert strand other flags word)
  unfolding act
  insert-frame strand other flags word s o i =
      with_side_lem (λ t. LivesIn t e ⊎ Removes u side e (command.Insert strand other flags word)) u _ other side o b (inl l)
      (λ f. rw f (side-frame strand flags word s (rw f at i)))

  -- an access marks the entry that it finds, and writes registers
  judged-frame : (v : State) (a : Access) (p : Translation) (j : Result (Unit {0}) Trap) → Lives v side e → Lives (settle_judged v a p j).state side e
  judged-frame v a p (Err t) g = g
  judged-frame v a p (Ok _) g = g

  looked-frame : (a : Access) (f : Looked) → a.side < 2 → Lives (settle_looked u a f).state side e
  looked-frame a miss d = l
  looked-frame a (hit_at i r) d =
      let k : ℕ = a.side in
      let word : ℕ = (get_or (side_of u k) i no_slot).word in
      judged-frame (with_side u k (set_used i (side_of u k))) a (translated_by word r) (judge u.registers a word)
      (with_side_lem (λ s. LivesIn s e) u (set_used i (side_of u k)) k side d b l (λ q. rw q (used-frame (side_of u side) e l i)))

  settled-frame : (a : Access) (p : Prepared) → a.side < 2 → Lives (settle u a p).state side e
  settled-frame a (prepared.Stopped t tag) d = l
  settled-frame a (prepared.Bypass p) d = l
  settled-frame a prepared.Lookup d = looked-frame a (lookup (lookup_key u.registers a) (side_of u a.side)) d

  -- every command that no question refused
  act-frame : (hv : Bool) (c : Command) → verdict hv u c ≡ Ok tt → Lives (act u c).state side e ⊎ Removes u side e c
  unfolding act asked all_of is_of is_at in_context in_partition removes
  act-frame hv (command.Write strand number value) v = inl l
  act-frame hv (command.Insert strand other flags word) v =
      let (s, o, i) = insert-insertable hv u strand other flags word v in
      insert-frame strand other flags word s o i
  act-frame hv (command.DemapPage strand other selector flags address) v =
      let q = passed-asked hv u (command.DemapPage strand other selector flags address) v in
      let s : StrandSound u.registers strand = strand-sound u.registers strand (sound-registers n u h) (search conj) in
      let small : flags < 2 = search conj in
      demap-frame other (search conj) (page-test _ (flag_real flags) _ address)
      (λ f t. rw f (demapped_page (of-partition e _ (and_left _ _ t)) (rw (mod-eq_of_lt small) at t)))
  act-frame hv (command.DemapContext strand other selector) v =
      let q = passed-asked hv u (command.DemapContext strand other selector) v in
      let s : StrandSound u.registers strand = strand-sound u.registers strand (sound-registers n u h) (search conj) in
      demap-frame other (search conj) (context-test _ _ s.partitions (s.contexts selector)) (λ f t. rw f (demapped_context (of-partition e _ t) t))
  act-frame hv (command.DemapAll strand other) v =
      let q = passed-asked hv u (command.DemapAll strand other) v in
      demap-frame other (search conj) (partition-test (partition u.registers strand))
      (λ f t. rw f (demapped_all (of-partition e _ t) (and_right (eqb e.partition _) _ t)))
  act-frame hv (command.Invalidate other) v =
      let q = passed-asked hv u (command.Invalidate other) v in
      demap-frame other (search conj) live_test (λ f t. rw f invalidated)
  act-frame hv (command.Access strand kind selector size address) v =
      let a : Access = access_of u.registers strand kind selector size address in
      inl (settled-frame a (prepare u.registers a) (kind_side_lem kind))
  act-frame hv (command.Read strand number) v = inl l
  act-frame hv (command.Pointers strand other) v = inl l
  act-frame hv (command.Rate strand other) v = inl l

-- ---- the laws
-- a live entry stays, the same in all its parts, or the command was accepted and is one that takes it
by_command_lem : (hv : Bool) (n : Counts) (u : State) (c : Command) (side : ℕ) (e : Entry) → sound n u ≡ true → side < 2 → Lives u side e
    → Lives (step hv u c).state side e ⊎ ((verdict hv u c ≡ Ok tt) × Removes u side e c)
unfolding step
by_command_lem hv n u c side e h b l = go (verdict hv u c) refl
  where
    go : (v : Result (Unit {0}) Refusal) → verdict hv u c ≡ v → Lives (step_by v u c).state side e ⊎ ((verdict hv u c ≡ Ok tt) × Removes u side e c)
    go (Ok _) v = ⊎_elim inl (λ r. inr (v, r)) (act-frame n u side e h b l hv c v)
    go (Err r) v = inl l

-- .. or the miss was served, by an insertion that takes it
module _ (n : Counts) (u : State) (strand at side : ℕ) (e : Entry) (h : sound n u ≡ true) (b : side < 2) (l : Lives u side e) where
  abbrev Taken : Stepped → Type 0
  Taken t = (word : ℕ) × (t ≡ act u (command.Insert strand at 0 word)) × Removes u side e (command.Insert strand at 0 word)

  step-taken : (word : ℕ) → strand < 4 → at < 2 → Lives (insert_step u strand at 0 word).state side e ⊎ Taken (insert_step u strand at 0 word)
  unfolding insert_step
  step-taken word s d = go (ask (asked_insertion u strand at 0 word)) refl
    where
      c : Command
      c = command.Insert strand at 0 word

      go : (v : Result (Unit {0}) Refusal) → ask (asked_insertion u strand at 0 word) ≡ v → Lives (step_by v u c).state side e ⊎ Taken (step_by v u c)
      go (Ok _) v = ⊎_elim inl (λ r. inr (word, refl, r)) (insert-frame n u side e h b l strand at 0 word s d (insertable u strand at 0 word v))
      go (Err r) v = inl l

  miss-taken : {m : Miss} {t : Stepped} → MissAlike u strand at m t → Lives t.state side e ⊎ Taken t
  miss-taken (refuses r) = inl l
  miss-taken lacks = inl l
  miss-taken (inserts word s d) = step-taken word s d

pub framed : Framed
framed = record {
  by_command = by_command_lem;
  by_miss = λ n u strand at of_zero of_other side e h b l.
      miss-taken n u strand at side e h b l (miss-alike (state-alike n u h).ledger strand at of_zero of_other);
}
