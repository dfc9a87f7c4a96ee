-- Commands on a side: the unit's and the ledger's agree. Assumes nothing.
use Rattle.std.proofs.Common.{Some, None, Ok, Err, Option, Result}
use Prim.Native.Nat.{ℕ, zero, suc, ◌-◌, ◌/◌, ◌%◌, ◌^◌, ◌≤◌, ◌<◌}
use mathlib.Core.Path.{◌≡◌, refl, sym, ap, ◌∙◌}
use mathlib.Core.Bool.{Bool, true, false, not}
use mathlib.Core.List.{List, map}
use native.Mathlib.Omega.{arith}
use lib.Dec.{eqb, ltb, leb}
use lib.ListN.{length, get_or}
use borrow.Author.Tests.{eqb-true, eq-eqb, ltb-true, not-true}
use Rattle.laws.specs.Tests.{tick, count, any_of, all_of}
use Rattle.laws.specs.Passing.{how_many, none_passes, find}
use Rattle.laws.proofs.Bools.{by-test, clash, and_left, and_right, and_both, or-other}
use Rattle.laws.proofs.Counts.{none-count}
use Rattle.laws.proofs.Walks.{found_none}
use Rattle.laws.proofs.Finds.{stands-count, how_many_lem, none_passes_lem, FindSays, find-says, find-only, find-zero}
use Rattle.machine.specs.Slots.{no_slot, is_live, answers_to, is_real, set_used}
use Rattle.machine.specs.Pages.{in_range}
use Rattle.machine.specs.Words.{word_sound}
use Rattle.machine.specs.Insertion.{removes, candidate, placed, inserted, has_slot}
use Rattle.machine.specs.Sound.{slot_sound}
use Rattle.machine.specs.Registers.{partition, selected}
use Rattle.machine.specs.Questions.{kind_side, flag_real, key_of, asked, verdict}
use Rattle.machine.specs.Access.{prepare, Stepped, settle_looked, missed, outcome_noted, settle, access_to}
use Rattle.machine.specs.declared.VirtualAddress.{VirtualAddress}
use Rattle.machine.specs.State.{Counts, slot_count, State, side_of, with_side}
use Rattle.machine.specs.Step.{placed_answer, demap, act}
use Rattle.machine.specs.Stream.{Bytes, answer_bytes}
use Rattle.machine.specs.Ledger.{Entry, Ledger, Name, name_in, is_named, line, lacks_slot, overlap, unlocked}
use Rattle.machine.specs.Ledger.{Written, inserts, demaps, with_entries, is_at, in_context, context_picked}
use Rattle.machine.specs.Ledger.{translation_on, Asked, asked_side, early_steps, looks_up, found_by, misses, puts, looked_up}
use Rattle.machine.specs.Ledger.{accesses, pointers, does}
use Rattle.machine.specs.Places.{Reference, emptied_where, used_where, each, accessed, moved}
use Rattle.machine.specs.Demand3.{InsertionSays, AccessSays}
use Rattle.machine.specs.Frame.{entry_in}
use Rattle.machine.specs.Views.{view}
use Rattle.machine.specs.declared.Slot.{Slot}
use Rattle.machine.specs.declared.Access.{Access}
use Rattle.machine.specs.declared.Prepared.TheVariants as prepared
use Rattle.machine.specs.declared.Removal.{Removal}
use Rattle.machine.specs.declared.Removal.TheVariants as removal
use Rattle.machine.proofs.Views.{Plain}
use Rattle.machine.proofs.Insertion.{is_refused, slot-had, no_slot_lem}
use Rattle.machine.proofs.Sound.{live-parts, sound-slot}
use Rattle.machine.specs.declared.Command.{Command}
use Rattle.machine.specs.declared.Command.TheVariants as command
use Rattle.machine.specs.declared.Answer.TheVariants as answer
use Rattle.machine.proofs.Matches.{looked-by}
use Rattle.machine.proofs.State.{strand-sound, kind_side_lem, passed-asked, key_address_lem}
use Rattle.machine.proofs.Questions.{context_picked_lem, write_bytes, write-alike, read-bytes, pointers-bytes, rate-bytes}
use Rattle.machine.proofs.Looks.{StepAlike, access_for, Early, looks, ends, prepare-alike, key-alike, key-small}
use Rattle.machine.proofs.Looks.{miss-alike, hit-alike, miss-not-hit, access-alike, fit_none, used-alike}
use Rattle.machine.proofs.Used.{SameSlots, hit-slots}
use Rattle.machine.proofs.Bytes.{line-answer, name_back, line-kind}
use Rattle.machine.proofs.Records.{noted-alike}
use Rattle.machine.proofs.Alike.{SideAlike, Alike, place_in, PlacesAlike, ReferenceAlike}
use Rattle.machine.proofs.Places.{displaced-way, emptied-side, used-side, unused-side, places-each, places_same}
use Rattle.machine.proofs.Sides.{SameTest, everything-test, page-test, context-test, partition-test, key-test}
use Rattle.machine.proofs.Sides.{aligned, alike-nothing, alike-found, alike-one, alike-used, alike-count}
use Rattle.machine.proofs.Sides.{alike-removed, alike-emptied, name_of, named_self, DisplacedSays, alike-lacks}
use Rattle.machine.proofs.Sides.{alike-done, alike-displaced, inserts-refused, inserts-done, inserts-displaced}
use Rattle.machine.specs.declared.NoSlot.{NoSlot}

-- ---- a side of two that are alike
pub alike-side : {n : Counts} {u : State} {l : Ledger} (side : ℕ) → side < 2 → Alike n u l → SideAlike (slot_count n side) (side_of u side) (l.entries side)
alike-side zero b h = h.itlb
alike-side (suc zero) b h = h.dtlb
alike-side (suc (suc k)) b h = absurd (omega arith)

pub alike-with_side : {n : Counts} {u : State} {l : Ledger} (side : ℕ) {s : List Slot} {m : List Entry} → side < 2 → Alike n u l
    → SideAlike (slot_count n side) s m → Alike n (with_side u side s) (with_entries l side m)
alike-with_side zero b h k = record { allowed = h.allowed; registers = h.registers; itlb = k; dtlb = h.dtlb; records = h.records }
alike-with_side (suc zero) b h k = record { allowed = h.allowed; registers = h.registers; itlb = h.itlb; dtlb = k; records = h.records }
alike-with_side (suc (suc j)) b h k = absurd (omega arith)

-- used bits are nothing to the ledger
pub alike-marked : {n : Counts} {u : State} {l : Ledger} (side : ℕ) {s : List Slot} → side < 2 → Alike n u l
    → SideAlike (slot_count n side) s (l.entries side) → Alike n (with_side u side s) l
alike-marked zero b h k = record { allowed = h.allowed; registers = h.registers; itlb = k; dtlb = h.dtlb; records = h.records }
alike-marked (suc zero) b h k = record { allowed = h.allowed; registers = h.registers; itlb = h.itlb; dtlb = k; records = h.records }
alike-marked (suc (suc j)) b h k = absurd (omega arith)

-- ---- demaps
module _ {n : Counts} {u : State} {l : Ledger} (h : Alike n u l) (side : ℕ) (b : side < 2) where
  pub demap-bytes : (which : Removal) (p : Entry → Bool) → SameTest (removes which) p → (demaps l side p).bytes ≡ answer_bytes (demap u side which).answer
  unfolding answer_bytes
  demap-bytes which p t =
      let s = alike-side side b h in
      let m : List Entry = l.entries side in
      sym (line-answer 0 _ 0 (omega arith) (omega arith) (omega arith) ∙ ap (λ (k : ℕ). line 0 0 0 0 k 0) (alike-count s t ∙ sym (how_many_lem p m)))

  pub demap-alike : (which : Removal) (p : Entry → Bool) → SameTest (removes which) p → Alike n (demap u side which).state (demaps l side p).ledger
  demap-alike which p t = alike-with_side side b h (alike-removed (alike-side side b h) t)

-- ---- insertion
tick-small : (b : Bool) → tick b < 2
tick-small true = omega arith
tick-small false = omega arith

-- an address in range has 64 bits
pub range-fits : (a : ℕ) → in_range a ≡ true → a < 2 ^ 64
unfolding in_range
range-fits a h =
    by-test (ltb a (2 ^ 47))
    (λ e. omega (arith, ltb-true a (2 ^ 47) e))
    (λ e. ltb-true a (2 ^ 64) (and_right (leb (2 ^ 64 - 2 ^ 47) a) _ (or-other (ltb a (2 ^ 47)) _ h e)))

word_below : (w : ℕ) → word_sound w ≡ true → w < 2 ^ 64
unfolding word_sound
word_below w h = omega (arith, eqb-true (w / 2 ^ 63) 1 (and_left _ _ h))

-- equal answers are of one kind
answer-kind : {b c : Bytes} → b ≡ c → get_or b 0 0 ≡ get_or c 0 0
answer-kind e = ap (λ (b : Bytes). get_or b 0 0) e

-- what the answer names is the displaced entry
displaced_name_lem : (x : Slot) → slot_sound x ≡ true → is_live x ≡ true → is_named (name_in (answer_bytes (placed_answer (Ok (Some x))))) (entry_in x) ≡ true
unfolding answer_bytes
displaced_name_lem x k l =
    let w = live-parts x k l in
    let (q, a) = aligned x k l in
    let p : x.page < 2 ^ 64 = range-fits x.page w.range in
    let e : name_in (answer_bytes (placed_answer (Ok (Some x)))) ≡ name_of x =
    name_back (omega (arith, w.partition)) (omega (arith, tick-small (is_real x))) (omega (arith, w.context)) (word_below x.word w.word) in
    rw e (named_self x)

pub insertion-says : {n : ℕ} {s : List Slot} {m : List Entry} → SideAlike n s m → (new : Slot) → slot_sound new ≡ true → is_live new ≡ true
    → InsertionSays n (map place_in s) m (entry_in new) (answer_bytes (placed_answer (placed candidate new s)))
unfolding answer_bytes
insertion-says {n} {s} {m} h new k l = go (placed candidate new s) refl
  where
    e : Entry
    e = entry_in new

    go : (r : Result (Option Slot) NoSlot) → placed candidate new s ≡ r → InsertionSays n (map place_in s) m e (answer_bytes (placed_answer r))
    go (Ok None) f = record {
      displaced = (λ z. absurd (omega arith), λ z. clash (and_both _ _ (eq-eqb _ _ z.0) (eq-eqb _ _ z.1)) (alike-done h new k l f).0);
      named = λ z. absurd (omega arith);
      refused = (
        λ z. absurd (omega (arith, answer-kind z, line-kind 5 13 0 0 0 0)),
        λ z. clash
            (and_both _ _ (eq-eqb _ _ z.0) (eq-eqb _ _ z.2)) (alike-done h new k l f).0,
      );
    }
    go (Ok (Some x)) f =
        let w : DisplacedSays n new s m x = alike-displaced h new k l x f in
        let any : 1 ≤ how_many unlocked m = rw (how_many_lem unlocked m) (stands-count unlocked m (entry_in x) w.free w.listed) in
        record {
          displaced = (λ z. (w.full, how_many_lem _ m ∙ w.apart, any), λ z. refl);
          named = λ z. (entry_in x, displaced-way new s x f, displaced_name_lem x w.sound w.live, w.listed, w.free);
          refused = (λ z. absurd (omega (arith, answer-kind z, line-kind 5 13 0 0 0 0)), λ z. absurd (omega (arith, z.1)));
        }
    go (Err _) f =
        let t : lacks_slot n e m ≡ true = alike-lacks h new k l ∙ ap not (slot-had candidate new s) ∙ rw f in
        let full : length m ≡ n = eqb-true _ _ (and_left _ _ t) in
        let locked : how_many unlocked m ≡ 0 = eqb-true _ _ (and_left _ _ (and_right (eqb (length m) n) _ t)) in
        let apart : how_many (overlap e) m ≡ 0 = eqb-true _ _ (and_right (none_passes unlocked m) _ (and_right (eqb (length m) n) _ t)) in
        record {
          displaced = (λ z. absurd (omega arith), λ z. absurd (omega (arith, z.2)));
          named = λ z. absurd (omega arith);
          refused = (λ z. (full, locked, apart), λ z. line-answer 5 0 0 (omega arith) (omega arith) (omega arith));
        }

-- the ledger, told what the unit's answer names, answers likewise; and but for a refusal the two stay alike
module _ {n : Counts} {u : State} {l : Ledger} (h : Alike n u l) (side : ℕ) (b : side < 2) (new : Slot) (k : slot_sound new ≡ true) (v : is_live new ≡ true) where
  abbrev answered : Result (Option Slot) NoSlot → Bytes
  answered r = answer_bytes (placed_answer r)

  abbrev entered : Result (Option Slot) NoSlot → Written
  entered r = inserts (slot_count n side) l side (entry_in new) (name_in (answered r))

  abbrev pub Inserted : Result (Option Slot) NoSlot → Type 0
  Inserted (Ok None) = Alike n (with_side u side (inserted candidate new (side_of u side))) (entered (Ok None)).ledger
  Inserted (Ok (Some x)) = Alike n (with_side u side (inserted candidate new (side_of u side))) (entered (Ok (Some x))).ledger
  Inserted (Err _) = (entered (Err (record {}))).ledger ≡ l

  pub insert-agrees : (r : Result (Option Slot) NoSlot) → placed candidate new (side_of u side) ≡ r → ((entered r).bytes ≡ answered r) × Inserted r
  unfolding answer_bytes
  insert-agrees (Ok None) f =
      let s = alike-side side b h in
      rw (inserts-done l side s new k v (name_in (answered (Ok None))) f) (
        sym (line-answer 0 0 0 (omega arith) (omega arith) (omega arith)),
        alike-with_side side b h (alike-done s new k v f).1,
      )
  insert-agrees (Ok (Some x)) f =
      let s = alike-side side b h in
      let w = alike-displaced s new k v x f in
      let t = displaced_name_lem x w.sound w.live in
      let p = live-parts x w.sound w.live in
      rw (inserts-displaced l side s new k v (name_in (answered (Ok (Some x)))) x f t) (
        sym (line-answer 4 _ _ (omega arith) (omega (arith, p.partition)) (omega (arith, tick-small (is_real x)))),
        alike-with_side side b h (w.after _ t),
      )
  insert-agrees (Err _) f =
      let s = alike-side side b h in
      let e : has_slot candidate new (side_of u side) ≡ false = slot-had candidate new (side_of u side) ∙ rw f in
      rw (inserts-refused l side s new k v (name_in (answered (Err (record {})))) e) (sym (line-answer 5 0 0 (omega arith) (omega arith) (omega arith)), refl)

  -- with a slot to be had the two stay alike; with none the insertion is refused, and the ledger is as it was
  pub insert-alike : has_slot candidate new (side_of u side) ≡ true
      → Alike n (with_side u side (inserted candidate new (side_of u side))) (entered (placed candidate new (side_of u side))).ledger
  insert-alike e = go (placed candidate new (side_of u side)) (sym (slot-had candidate new (side_of u side)) ∙ e) (insert-agrees _ refl).1
    where
      go : (r : Result (Option Slot) NoSlot) → not (is_refused r) ≡ true → Inserted r → Alike n (with_side u side (inserted candidate new (side_of u side))) (entered r).ledger
      go (Ok None) t a = a
      go (Ok (Some x)) t a = a
      go (Err _) t a = clash t refl

  pub insert-refused : has_slot candidate new (side_of u side) ≡ false
      → (placed candidate new (side_of u side) ≡ Err (record {})) × ((entered (placed candidate new (side_of u side))).ledger ≡ l)
  insert-refused e = let f = (no_slot_lem candidate new (side_of u side) e).0 in (f, rw f (insert-agrees (Err (record {})) f).1)

-- ---- what an access that looks up gets
looks-past : (l : Ledger) (a : Asked) → looks_up l a ≡ true → any_of (λ q. q.0) (early_steps l a) ≡ false
looks-past l a h = not-true _ (sym (none_passes_lem (λ q. q.0) (early_steps l a)) ∙ h)

access-says : (l : Ledger) (a : Asked) (b : Bytes) → count (found_by l a) (l.entries (asked_side a)) ≤ 1
    → b ≡ (looked_up l a (find (found_by l a) (l.entries (asked_side a)))).bytes → AccessSays l a b
access-says l a b one e = record {
  one = rw (how_many_lem p m) one;
  hit = λ x s t. e ∙ ap (λ (o : Option Entry). (looked_up l a o).bytes) (find-only p m x t s one);
  missed = (
    λ f. how_many_lem p m ∙ zero-by (find p m) (find-says p m) (sym f ∙ e),
    λ z. e ∙ ap (λ (o : Option Entry). (looked_up l a o).bytes) (find-zero p m (sym (how_many_lem p m) ∙ z)),
  );
}
  where
    m : List Entry
    m = l.entries (asked_side a)

    p : Entry → Bool
    p = found_by l a

    zero-by : (o : Option Entry) → FindSays p m o → (misses l a).bytes ≡ (looked_up l a o).bytes → count p m ≡ 0
    zero-by None f g = f
    zero-by (Some x) f g = absurd (miss-not-hit l a x g)

-- ---- each command that no question refused, but for the insertion
ruleset conj = (and_left, and_right, ltb-true)

done-bytes : (k : ℕ) → answer_bytes (answer.Done k) ≡ line 0 0 0 0 k 0
unfolding answer_bytes
done-bytes k = line-answer 0 k 0 (omega arith) (omega arith) (omega arith)

module _ {n : Counts} {u : State} {l : Ledger} (h : Alike n u l) where
  -- the test of a demap, in the unit's words and in the ledger's
  page-same : (strand selector flags : ℕ) (address : VirtualAddress) → strand < 4 → selector < 3 → flags < 2
      → SameTest (removes (removal.Page (key_of (flag_real flags) (partition u.registers strand) (selected u.registers strand selector) address)))
      (is_at (l.registers strand 0) (eqb flags 1) (context_picked l strand selector) address.0)
  page-same strand selector flags address s c f =
      let w = strand-sound u.registers strand h.allowed s in
      let e : flags % 2 ≡ flags = omega arith in
      rw (h.registers strand 0 s (omega arith), context_picked_lem h strand s selector c, e)
      (page-test (partition u.registers strand) (eqb flags 1) (selected u.registers strand selector) address)

  context-same : (strand selector : ℕ) → strand < 4 → selector < 3
      → SameTest (removes (removal.Context (partition u.registers strand) (selected u.registers strand selector)))
      (in_context (l.registers strand 0) (context_picked l strand selector))
  context-same strand selector s c =
      let w = strand-sound u.registers strand h.allowed s in
      rw (h.registers strand 0 s (omega arith), context_picked_lem h strand s selector c)
      (context-test (partition u.registers strand) (selected u.registers strand selector) w.partitions (w.contexts selector))

  demap-does : (side : ℕ) (which : Removal) (p : Entry → Bool) → side < 2 → SameTest (removes which) p → StepAlike n (demap u side which) (demaps l side p)
  demap-does side which p b t = record { bytes = sym (demap-bytes h side b which p t); alike = demap-alike h side b which p t }

  -- ---- the lookup itself
  -- its outcome, put down in both
  puts-alike : (a : Asked) → a.strand < 4 → (b : Bool) {r : Stepped} {w : Written} → StepAlike n r w
      → StepAlike n (outcome_noted (access_for u.registers a) (tick b) r) (puts a b w)
  puts-alike a s b j = record {
    bytes = j.bytes;
    alike = record {
      allowed = j.alike.allowed;
      registers = j.alike.registers;
      itlb = j.alike.itlb;
      dtlb = j.alike.dtlb;
      records = noted-alike j.alike.records a.strand (kind_side a.kind) s (kind_side_lem a.kind) b;
    };
  }

  pub looked : (a : Asked) → SideAlike (slot_count n (kind_side a.kind)) (side_of u (kind_side a.kind)) (l.entries (kind_side a.kind))
  looked a = alike-side (kind_side a.kind) (kind_side_lem a.kind) h

  pub key-same : (a : Asked) (s : a.strand < 4) (c : a.selector < 3)
      → SameTest (answers_to (key_of (not (translation_on l a)) (l.registers a.strand 0) (context_picked l a.strand a.selector)
      (record { 0 = a.used }))) (found_by l a)
  key-same a s c = key-test _ (not (translation_on l a)) _ (record { 0 = a.used })

  pub looked-one : (a : Asked) (s : a.strand < 4) (c : a.selector < 3) → count (found_by l a) (l.entries (kind_side a.kind)) ≤ 1
  looked-one a s c = alike-one (looked a) _ (not (translation_on l a)) _ (record { 0 = a.used }) (key-small h a s c).0 (key-small h a s c).1

  found_alike : (a : Asked) → a.strand < 4 → a.selector < 3 →
      let b : Access = access_for u.registers a in
      let side : ℕ = kind_side a.kind in
      StepAlike n (settle u b prepared.Lookup) (looked_up l a (find (found_by l a) (l.entries side)))
  found_alike a s c =
      let side : ℕ = kind_side a.kind in
      let b : Access = access_for u.registers a in
      let w : Written = looked_up l a (find (found_by l a) (l.entries side)) in
      rw (key-alike h a s c) (looked-by _ (side_of u side) (λ f. StepAlike n (outcome_noted b (missed f) (settle_looked u b f)) w)
      (λ e. rw (alike-nothing (looked a) (key-same a s c) e) (puts-alike a s true (miss-alike h a s c)))
      (λ i e.
      let f = alike-found (looked a) (key-same a s c) i (looked-one a s c) e in
      let x = get_or (side_of u side) i no_slot in
      let marked = alike-marked side (kind_side_lem a.kind) h (alike-used (looked a) i f.0) in
      let good : word_sound x.word ≡ true = (live-parts x (sound-slot (side_of u side) i (looked a).sound) f.0).word in
      rw (f.1, key_address_lem _ _ _ _) (puts-alike a s false (hit-alike marked a s c (entry_in x) refl good))))

  access-does : (a : Asked) → a.strand < 4 → a.selector < 3 → StepAlike n (access_to u (access_for u.registers a)) (accesses l a)
  unfolding accesses
  access-does a s c = access-alike h a s c _ (found_alike a s c)

  pub access-told : (a : Asked) → a.strand < 4 → a.selector < 3 → looks_up l a ≡ true
      → AccessSays l a (answer_bytes (access_to u (access_for u.registers a)).answer)
  unfolding accesses
  access-told a s c e =
      access-says l a _ (looked-one a s c)
      ((access-does a s c).bytes ∙ ap (λ (w : Written). w.bytes) (fit_none (early_steps l a) _ (looks-past l a e)))

  -- a command that passed and is no insertion
  pub does-alike : (hv : Bool) (c : Command) → verdict hv u c ≡ Ok tt → (d : Name) → Plain (view c) → StepAlike n (act u c) (does (slot_count n) l c d)
  unfolding act does asked all_of pointers
  does-alike hv (command.Write strand number value) v d t = record { bytes = write_bytes u strand number value; alike = write-alike h hv strand number value v }
  does-alike hv (command.Insert strand side flags word) v d t = absurd t
  does-alike hv (command.DemapPage strand side selector flags address) v d t =
      let q = passed-asked hv u (command.DemapPage strand side selector flags address) v in
      demap-does side _ _ (search conj) (page-same strand selector flags address (search conj) (search conj) (search conj))
  does-alike hv (command.DemapContext strand side selector) v d t =
      let q = passed-asked hv u (command.DemapContext strand side selector) v in
      demap-does side _ _ (search conj) (context-same strand selector (search conj) (search conj))
  does-alike hv (command.DemapAll strand side) v d t =
      let q = passed-asked hv u (command.DemapAll strand side) v in
      let s : strand < 4 = search conj in
      demap-does side _ _ (search conj) (rw (h.registers strand 0 s (omega arith)) (partition-test (partition u.registers strand)))
  does-alike hv (command.Invalidate side) v d t =
      let q = passed-asked hv u (command.Invalidate side) v in
      let b : side < 2 = search conj in
      record { bytes = done-bytes 0; alike = alike-with_side side b h (alike-emptied (alike-side side b h)) }
  does-alike hv (command.Access strand kind selector size address) v d t =
      let q = passed-asked hv u (command.Access strand kind selector size address) v in
      let s : strand < 4 = search conj in
      rw (← (used-alike h strand address s)) (access-does _ s (search conj))
  does-alike hv (command.Read strand number) v d t = record { bytes = read-bytes h hv strand number v; alike = h }
  does-alike hv (command.Pointers strand side) v d t = record { bytes = pointers-bytes h hv strand side v; alike = h }
  does-alike hv (command.Rate strand side) v d t = record { bytes = rate-bytes h hv strand side v; alike = h }

-- ---- and its places
same-side : (u : State) (side : ℕ) → SameSlots u (with_side u side (side_of u side))
same-side u side = by-test (eqb side 0) (λ e. rw e (refl, refl)) (λ e. rw e (refl, refl))

module _ {n : Counts} {u : State} {k : Reference} (h : ReferenceAlike n u k) where
  abbrev l : Ledger
  l = k.ledger

  demap-places : (side : ℕ) (which : Removal) (p : Entry → Bool) → side < 2 → SameTest (removes which) p
      → PlacesAlike (demap u side which).state (each k side (emptied_where p))
  demap-places side which p b t = places-each h.places side b _ (emptied_where p) (emptied-side t (side_of u side) (alike-side side b h.ledger).sound)

  found-places : (a : Asked) → a.strand < 4 → a.selector < 3 →
      let b : Access = access_for u.registers a in
      let side : ℕ = kind_side a.kind in
      PlacesAlike (settle u b prepared.Lookup).state (each k side (used_where (found_by l a)))
  found-places a s c =
      let side : ℕ = kind_side a.kind in
      let b : Access = access_for u.registers a in
      let t = key-same h.ledger a s c in
      let ps = each k side (used_where (found_by l a)) in
      rw (key-alike h.ledger a s c) (looked-by _ (side_of u side) (λ f. PlacesAlike (outcome_noted b (missed f) (settle_looked u b f)).state ps)
      (λ e.
      let none-found = none-count _ (side_of u side) (found_none no_slot _ (side_of u side) e) in
      places_same _ (places-each h.places side (kind_side_lem a.kind) (side_of u side) (used_where (found_by l a))
      (unused-side t (side_of u side) (looked h.ledger a).sound none-found)) (same-side u side))
      (λ i e.
      places_same _ (places-each h.places side (kind_side_lem a.kind) (set_used i (side_of u side)) (used_where (found_by l a))
      (used-side t (side_of u side) i (looked h.ledger a).sound
      (omega (arith, alike-count (looked h.ledger a) t, looked-one h.ledger a s c)) e)) (hit-slots u b i _)))

  access-places : (a : Asked) → a.strand < 4 → a.selector < 3 → PlacesAlike (access_to u (access_for u.registers a)).state (accessed k a)
  access-places a s c = go (prepare-alike h.ledger a s c)
    where
      go : Early n u (access_for u.registers a) (prepare u.registers (access_for u.registers a)) (early_steps l a)
          → PlacesAlike (access_to u (access_for u.registers a)).state (accessed k a)
      go (looks p past) = rw (p, none_passes_lem (λ q. q.0) (early_steps l a), past) (found-places a s c)
      go (ends any z f) = rw (none_passes_lem (λ q. q.0) (early_steps l a), any) (places_same _ h.places z)

  pub does-places : (hv : Bool) (c : Command) → verdict hv u c ≡ Ok tt → Plain (view c) → PlacesAlike (act u c).state (moved (slot_count n) k c)
  unfolding act moved asked all_of
  does-places hv (command.Write strand number value) v t = places_same _ h.places (refl, refl)
  does-places hv (command.Insert strand side flags word) v t = absurd t
  does-places hv (command.DemapPage strand side selector flags address) v t =
      let q = passed-asked hv u (command.DemapPage strand side selector flags address) v in
      demap-places side _ _ (search conj) (page-same h.ledger strand selector flags address (search conj) (search conj) (search conj))
  does-places hv (command.DemapContext strand side selector) v t =
      let q = passed-asked hv u (command.DemapContext strand side selector) v in
      demap-places side _ _ (search conj) (context-same h.ledger strand selector (search conj) (search conj))
  does-places hv (command.DemapAll strand side) v t =
      let q = passed-asked hv u (command.DemapAll strand side) v in
      let s : strand < 4 = search conj in
      demap-places side _ _ (search conj) (rw (h.ledger.registers strand 0 s (omega arith)) (partition-test (partition u.registers strand)))
  does-places hv (command.Invalidate side) v t =
      let q = passed-asked hv u (command.Invalidate side) v in
      demap-places side removal.Everything (λ _. true) (search conj) everything-test
  does-places hv (command.Access strand kind selector size address) v t =
      let q = passed-asked hv u (command.Access strand kind selector size address) v in
      let s : strand < 4 = search conj in
      rw (← (used-alike h.ledger strand address s)) (access-places _ s (search conj))
  does-places hv (command.Read strand number) v t = h.places
  does-places hv (command.Pointers strand side) v t = h.places
  does-places hv (command.Rate strand side) v t = h.places
