-- Number 1 of the unit and of the second text are one, and a good book describes the state of its words. Assumes nothing.
use Prim.Native.Nat.{ℕ, zero, suc, ◌+◌, ◌*◌, ◌/◌, ◌%◌, ◌^◌, ◌<◌}
use mathlib.Core.Path.{◌≡◌, refl, ap, ap₂, sym, ◌∙◌}
use mathlib.Core.Bool.{Bool, true, false, not, ◌&&◌, ◌||◌}
use mathlib.Core.List.{List, [], ◌∷◌, map}
use native.Mathlib.Omega.{arith}
use lib.Dec.{eqb, ltb}
use lib.Pow.{split}
use lib.ListN.{length, get_or, length-map, get_or-map}
use borrow.Author.Tests.{eq-eqb, lt-ltb}
use Rattle.laws.specs.Tests.{tick, count, any_of, all_of, pairwise}
use Rattle.laws.proofs.Bools.{by-test, and_both, and_left, and_right}
use Rattle.laws.proofs.Belows.{below_all}
use Rattle.laws.proofs.Alls.{pair-get}
use Rattle.laws.proofs.Finds.{how_many_lem}
use Rattle.machine.specs.Pages.{in_range, page_shift, page_size}
use Rattle.machine.specs.Words.{word_sound}
use Rattle.machine.specs.Slots.{no_slot, is_live, is_used}
use Rattle.machine.specs.Insertion.{overlaps}
use Rattle.machine.specs.Sound.{owner_sound, page_sound, live_sound, slot_sound, side_sound}
use Rattle.machine.specs.Registers.{register, allowed, registers_sound}
use Rattle.machine.specs.State.{words_sound, Counts, slot_count, State, side_of, state_of, sound}
use Rattle.machine.specs.Frame.{entry_in}
use Rattle.machine.specs.Ledger.{Entry, overlap}
use Rattle.machine.specs.Places.{Place, empty, filled, Reference, row, seen_words, newest_words, older_words}
use Rattle.machine.specs.Good.{GoodWords, EntryGood, SideGood, entries_in, ReferenceGood}
use Rattle.machine.specs.Demand3.{Described}
use Rattle.machine.specs.Step.{step}
use Rattle.machine.specs.declared.Slot.{Slot}
use Rattle.machine.specs.declared.Command.{Command}
use Rattle.machine.proofs.Sound.{live-parts, no_slot-sound, none-overlaps, sound-slot}
use Rattle.machine.proofs.State.{allowed_at, sound-registers, sound-side, sound-records, encode-state, words_sound_lem, sound-words}
use Rattle.machine.proofs.Questions.{address_good_lem, page_bytes_lem, word_good_lem, cell-good}
use Rattle.machine.proofs.Alike.{hit, SideAlike, place_in, ReferenceAlike}
use Rattle.machine.proofs.Sides.{overlap-test}
use Rattle.machine.proofs.Commands.{alike-side}
use Rattle.machine.proofs.Record.{row-length, row_at}
use Rattle.machine.proofs.Records.{lookups_of, records-back}
use Rattle.machine.proofs.Demand3.{step-says, alike-sound, alike-words, events-say}

-- ---- from slots to places
entry-good : (x : Slot) → slot_sound x ≡ true → is_live x ≡ true → EntryGood (entry_in x)
entry-good x h l =
    let w = live-parts x h l in
    let b = page_bytes_lem x.word w.word in
    record {
      word = word_good_lem x.word ∙ w.word;
      partition = omega (arith, w.partition);
      context = omega (arith, w.context);
      real = w.real;
      range = address_good_lem x.page ∙ w.range;
      start = rw b (omega (arith, split x.page (page_shift (x.word % 2 ^ 4)), w.start));
    }

-- a place that holds an entry is a live slot's
filled_live : (x : Slot) (e : Entry) (used : Bool) → place_in x ≡ filled e used → (is_live x ≡ true) × (entry_in x ≡ e)
filled_live x e used f = by-test (is_live x)
    (λ l. let g : filled (entry_in x) (is_used x) ≡ filled e used = rw l at f in (l, cc))
    (λ l. let g : empty ≡ filled e used = rw l at f in absurd (let z : ◌≡◌ {A = ℕ} 0 1 = cc in omega arith))

side-good : (n : ℕ) (s : List Slot) → length s ≡ n → side_sound s ≡ true → SideGood n (map place_in s)
unfolding side_sound
side-good n s z h = record {
  size = length-map s place_in ∙ z;
  entries = λ i e used f.
      let (l, g) = at i e used f in
      rw g at (entry-good (get_or s i no_slot) (sound-slot s i h) l);
  apart = λ i j e x a b c f g.
      let (l, p) = at i e a f in
      let (m, q) = at j x b g in
      sym ((overlap-test (get_or s i no_slot) (sound-slot s i h) l).agree (get_or s j no_slot) (sound-slot s j h) m ∙ rw (p, q))
      ∙ pair-get overlaps no_slot none-overlaps s i j c (and_right (all_of slot_sound s) _ h);
}
  where
    at : (i : ℕ) (e : Entry) (used : Bool) → get_or (map place_in s) i empty ≡ filled e used
        → (is_live (get_or s i no_slot) ≡ true) × (entry_in (get_or s i no_slot) ≡ e)
    at i e used f = filled_live (get_or s i no_slot) e used (sym (get_or-map place_in s i no_slot) ∙ f)

-- the book of a state
abbrev reference_of : State → Reference
reference_of u = record {
  ledger = record {
    registers = register u.registers;
    entries = λ side. entries_in (map place_in (side_of u side));
    lookups = lookups_of u.records;
  };
  places = λ side. map place_in (side_of u side);
}

pub entries-same : (p : Entry → Bool) (s : List Slot) → count (hit p) s ≡ count p (entries_in (map place_in s))
unfolding count entries_in
entries-same p [] = refl
entries-same p (x ∷ r) = by-test (is_live x) (λ e. rw (e, entries-same p r)) (λ e. rw e (omega (arith, entries-same p r)))

pub state-alike : (n : Counts) (u : State) → sound n u ≡ true → ReferenceAlike n u (reference_of u)
state-alike n u h = record {
  ledger = record {
    allowed = sound-registers n u h;
    registers = λ strand number s k. refl;
    itlb = side 0;
    dtlb = side 1;
    records = records-back u.records (sound-records n u h);
  };
  places = record { at = λ side b. refl };
}
  where
    side : (k : ℕ) → SideAlike (slot_count n k) (side_of u k) (entries_in (map place_in (side_of u k)))
    side k = record { size = (sound-side n u h k).0; sound = (sound-side n u h k).1; same = λ p. entries-same p (side_of u k) }

-- what a command leaves is described again, so it is sound
pub step-sound : (hv : Bool) (n : Counts) (u : State) (c : Command) → sound n u ≡ true → sound n (step hv u c).state ≡ true
step-sound hv n u c h = alike-sound n _ _ (step-says hv n u (reference_of u) c (state-alike n u h)).alike.ledger

-- what describes a state is good
pub alike-good : {n : Counts} {u : State} {k : Reference} → ReferenceAlike n u k → ReferenceGood (slot_count n) k
alike-good {n} {u} {k} h = record {
  registers = λ strand number s r.
      cell-good number _ ∙ ap (allowed number) (h.ledger.registers strand number s r) ∙ allowed_at u.registers strand number h.ledger.allowed s r;
  sides = λ side b.
      let a = alike-side side b h.ledger in
      rw (h.places.at side b) (side-good (slot_count n side) (side_of u side) a.size a.sound);
  listed = λ side b p.
      let s : List Slot = side_of u side in
      how_many_lem p (k.ledger.entries side) ∙ sym ((alike-side side b h.ledger).same p) ∙ entries-same p s
      ∙ rw (h.places.at side b) (sym (how_many_lem p (entries_in (map place_in s))));
}

-- ---- from places to slots
abbrev pub slot_for : Place → Slot
slot_for empty = no_slot
slot_for (filled e used) = record {
  owner = e.partition * 2 ^ 14 + tick e.real * 2 ^ 13 + e.context;
  page = e.page;
  word = e.word;
  flags = tick e.locked + 2 * tick used;
}

owner-parts : (p c : ℕ) (r : Bool) → c < 2 ^ 13 →
    let owner = p * 2 ^ 14 + tick r * 2 ^ 13 + c in
    (owner / 2 ^ 14 ≡ p) × (owner / 2 ^ 13 % 2 ≡ tick r) × (owner % 2 ^ 13 ≡ c)
owner-parts p c true h = omega arith
owner-parts p c false h = omega arith

tick-back : (b : Bool) → eqb (tick b) 1 ≡ b
tick-back true = refl
tick-back false = refl

flag-parts : (l m : Bool) →
    let flags = tick l + 2 * tick m in
    (eqb (flags % 2) 1 ≡ l) × (eqb (flags / 2 % 2) 1 ≡ m) × (ltb flags 4 ≡ true)
flag-parts true true = (refl, refl, refl)
flag-parts true false = (refl, refl, refl)
flag-parts false true = (refl, refl, refl)
flag-parts false false = (refl, refl, refl)

module _ (e : Entry) (used : Bool) (g : EntryGood e) where
  abbrev x : Slot
  x = slot_for (filled e used)

  word_sound_lem : word_sound e.word ≡ true
  word_sound_lem = sym (word_good_lem e.word) ∙ g.word

  slot-live : is_live x ≡ true
  unfolding word_sound
  slot-live = and_left _ _ word_sound_lem

  slot-back : place_in x ≡ filled e used
  slot-back =
      let o = owner-parts e.partition e.context e.real (omega (arith, g.context)) in
      let f = flag-parts e.locked used in
      rw (slot-live, o.0, o.1, o.2, f.0, f.1, tick-back e.real)

  slot-entry : entry_in x ≡ e
  slot-entry = (filled_live x e used slot-back).1

  slot-good : slot_sound x ≡ true
  unfolding slot_sound live_sound owner_sound page_sound
  slot-good =
      let o = owner-parts e.partition e.context e.real (omega (arith, g.context)) in
      let start : e.page / page_size (e.word % 2 ^ 4) * page_size (e.word % 2 ^ 4) ≡ e.page =
      omega (arith, split e.page (page_shift (e.word % 2 ^ 4)), rw (page_bytes_lem e.word word_sound_lem) at g.start) in
      let partition : ltb e.partition 8 ≡ true = lt-ltb e.partition 8 (omega (arith, g.partition)) in
      let range : in_range e.page ≡ true = sym (address_good_lem e.page) ∙ g.range in
      rw (slot-live, word_sound_lem, o.0, o.1, o.2, tick-back e.real, partition, range, eq-eqb _ _ start, (flag-parts e.locked used).2)
      (real-zero e.real g.real)
    where
      real-zero : (r : Bool) → (r ≡ true → e.context ≡ 0) → ((not r || eqb e.context 0) && true) ≡ true
      real-zero true h = rw (h refl)
      real-zero false h = refl

slots-back : (s : List Place) → ((i : ℕ) (e : Entry) (used : Bool) → get_or s i empty ≡ filled e used → EntryGood e) → map place_in (map slot_for s) ≡ s
slots-back [] h = refl
slots-back (empty ∷ r) h = ap (λ (t : List Place). empty ∷ t) (slots-back r (λ i. h (suc i)))
slots-back (filled e used ∷ r) h = ap₂ (λ y t. y ∷ t) (slot-back e used (h 0 e used refl)) (slots-back r (λ i. h (suc i)))

slots-good : (s : List Place) → ((i : ℕ) (e : Entry) (used : Bool) → get_or s i empty ≡ filled e used → EntryGood e) → all_of slot_sound (map slot_for s) ≡ true
unfolding all_of
slots-good [] h = refl
slots-good (empty ∷ r) h = and_both _ _ no_slot-sound (slots-good r (λ i. h (suc i)))
slots-good (filled e used ∷ r) h = and_both _ _ (slot-good e used (h 0 e used refl)) (slots-good r (λ i. h (suc i)))

-- no two overlap
none-overlap : (s : List Place) → any_of (overlaps no_slot) (map slot_for s) ≡ false
unfolding any_of overlaps
none-overlap [] = refl
none-overlap (x ∷ r) = none-overlap r

module _ (e : Entry) (used : Bool) (g : EntryGood e) where
  entry-apart : (s : List Place) → ((i : ℕ) (x : Entry) (b : Bool) → get_or s i empty ≡ filled x b → EntryGood x)
      → ((i : ℕ) (x : Entry) (b : Bool) → get_or s i empty ≡ filled x b → overlap e x ≡ false)
      → any_of (overlaps (slot_for (filled e used))) (map slot_for s) ≡ false
  unfolding any_of
  entry-apart [] h k = refl
  entry-apart (empty ∷ r) h k = rw (none-overlaps (slot_for (filled e used))) (entry-apart r (λ i. h (suc i)) (λ i. k (suc i)))
  entry-apart (filled x b ∷ r) h k =
      let y = h 0 x b refl in
      let a : overlaps (slot_for (filled e used)) (slot_for (filled x b)) ≡ false =
      (overlap-test _ (slot-good e used g) (slot-live e used g)).agree _ (slot-good x b y) (slot-live x b y)
      ∙ rw (slot-entry e used g, slot-entry x b y) (k 0 x b refl) in
      rw a (entry-apart r (λ i. h (suc i)) (λ i. k (suc i)))

slots_apart : (s : List Place) → ((i : ℕ) (e : Entry) (used : Bool) → get_or s i empty ≡ filled e used → EntryGood e)
    → ((i j : ℕ) (e x : Entry) (a b : Bool) → i < j → get_or s i empty ≡ filled e a → get_or s j empty ≡ filled x b → overlap e x ≡ false)
    → pairwise overlaps (map slot_for s) ≡ true
unfolding pairwise
slots_apart [] h k = refl
slots_apart (empty ∷ r) h k = rw (none-overlap r) (slots_apart r (λ i. h (suc i)) (λ i j e x a b c. k (suc i) (suc j) e x a b (omega arith)))
slots_apart (filled e used ∷ r) h k =
    rw (entry-apart e used (h 0 e used refl) r (λ i. h (suc i)) (λ i x b f. k 0 (suc i) e x used b (omega arith) refl f))
    (slots_apart r (λ i. h (suc i)) (λ i j e x a b c. k (suc i) (suc j) e x a b (omega arith)))

-- the state of a good book
module _ (n : Counts) (k : Reference) (g : ReferenceGood (slot_count n) k) where
  abbrev pub state_for : State
  state_for = record {
    registers = row (λ i. k.ledger.registers (i / 32) (i % 32)) 128;
    itlb = map slot_for (k.places 0);
    dtlb = map slot_for (k.places 1);
    records = record {
      seen = seen_words k.ledger.lookups;
      newest = newest_words k.ledger.lookups;
      older = older_words k.ledger.lookups;
    };
  }

  file-good : registers_sound state_for.registers ≡ true
  unfolding registers_sound
  file-good =
      and_both _ _ (eq-eqb _ _ (row-length _ 128))
      (below_all _ 128 (λ i b.
      ap (λ v. allowed (i % 32) v) (row_at _ 128 i b) ∙ sym (cell-good (i % 32) _) ∙ g.registers (i / 32) (i % 32) (omega arith) (omega arith)))

  file-at : (strand number : ℕ) → strand < 4 → number < 32 → k.ledger.registers strand number ≡ register state_for.registers strand number
  file-at strand number s r =
      let a : (strand * 32 + number) / 32 ≡ strand = omega arith in
      let b : (strand * 32 + number) % 32 ≡ number = omega arith in
      sym (row_at _ 128 (strand * 32 + number) (omega arith) ∙ rw (a, b))

  side-for : (side : ℕ) → side < 2 → SideAlike (slot_count n side) (map slot_for (k.places side)) (k.ledger.entries side)
  unfolding side_sound
  side-for side b =
      let s = g.sides side b in
      let back : map place_in (map slot_for (k.places side)) ≡ k.places side = slots-back (k.places side) s.entries in
      record {
        size = length-map (k.places side) slot_for ∙ s.size;
        sound = and_both _ _ (slots-good (k.places side) s.entries) (slots_apart (k.places side) s.entries s.apart);
        same = λ p.
            entries-same p (map slot_for (k.places side))
            ∙ rw back (sym (how_many_lem p (entries_in (k.places side))) ∙ sym (g.listed side b p) ∙ how_many_lem p (k.ledger.entries side));
      }

  pub good-alike : ReferenceAlike n state_for k
  good-alike = record {
    ledger = record {
      allowed = file-good;
      registers = file-at;
      itlb = side-for 0 (omega arith);
      dtlb = side-for 1 (omega arith);
      records = record { seen = refl; newest = refl; older = refl };
    };
    places = record { at = stands };
  }
    where
      stands : (side : ℕ) → side < 2 → k.places side ≡ map place_in (side_of state_for side)
      stands zero b = sym (slots-back (k.places 0) (g.sides 0 b).entries)
      stands (suc zero) b = sym (slots-back (k.places 1) (g.sides 1 b).entries)
      stands (suc (suc j)) b = absurd (omega arith)

pub described : (n : Counts) → Described n
described n = record {
  sound = λ words. (
    λ w.
        let (s, l) = sound-words n words w in
        let h = state-alike n (state_of n words) s in
        (reference_of (state_of n words), alike-good h, sym (encode-state n words l) ∙ alike-words h),
    λ t.
        let (k, g, e) = t in
        let h = good-alike n k g in
        rw (e, ← (alike-words h)) (words_sound_lem n (state_for n k g) (alike-sound n (state_for n k g) k.ledger h.ledger)),
  );
  lists = λ k g es. rw (alike-words (good-alike n k g)) at (events-say n es (state_for n k g) k (good-alike n k g));
}

-- words that no reference describes are not sound
pub unsound-words : (n : Counts) (words : List ℕ) → (GoodWords (slot_count n) words → ⊥) → words_sound n words ≡ false
unsound-words n words f = by-test (words_sound n words) (λ t. absurd (f (((described n).sound words).0 t))) (λ t. t)
