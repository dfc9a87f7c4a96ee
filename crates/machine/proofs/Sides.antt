-- A side of the unit and the ledger's list of it: tests of a slot and of its entry agree, and a demap, a lookup and an insertion keep the two alike.
-- Assumes nothing.
use Rattle.std.proofs.Common.{Some, None, Ok}
use Prim.Native.Nat.{ℕ, zero, suc, ◌+◌, ◌*◌, ◌-◌, ◌/◌, ◌%◌, ◌^◌, ◌≤◌, ◌<◌}
use mathlib.Core.Path.{◌≡◌, refl, ap, sym, ◌∙◌}
use mathlib.Core.Bool.{Bool, true, false, not, ◌&&◌, ◌||◌, beq, and_assoc, and-false, and-true}
use mathlib.Core.List.{List, [], ◌∷◌, ◌++◌}
use native.Mathlib.Omega.{arith}
use native.Mathlib.Nat.{mod-lt, mul_assoc}
use lib.Dec.{eqb, leb, ltb}
use lib.Pow.{split, high, pow_pos, pow-add}
use lib.ListN.{length, get_or, replicate, length-set, length-replicate, get_or-eq_default}
use borrow.Author.Tests.{eqb-true, eqb-false, eq-eqb, lt-ltb, ltb-true, ltb-false, le-leb, leb-true, not-true}
use Rattle.laws.specs.Tests.{tick, count, any_of, all_of, first}
use Rattle.laws.specs.Passing.{none_passes, without, find}
use Rattle.laws.proofs.Bools.{by-test, clash, both_ways, and_both, and_left, and_right}
use Rattle.laws.proofs.Counts.{count-append, count-passing, count_none, count-all, count-rest, count_at, count-one, count-le, none-count}
use Rattle.laws.proofs.Walks.{found_at, found_none}
use Rattle.laws.proofs.Finds.{count_index, find-zero, find-only, removed-once, count-where, zero-none, without-none, how_many_lem}
use Rattle.machine.specs.Pages.{listed, page_shift, page_size, page_start}
use Rattle.machine.specs.Words.{word_sound}
use Rattle.machine.specs.Slots.{no_slot, is_live, size_code, partition_of, is_real, context_of, KeyFits, agrees, holds, is_compared, answers_to}
use Rattle.machine.specs.Slots.{with_used, without_used, set_used}
use Rattle.machine.specs.Insertion.{overlaps, removed, removes, is_empty, candidate, inserted, placed, has_slot}
use Rattle.machine.specs.Sound.{slot_sound, side_sound}
use Rattle.machine.specs.Questions.{key_of}
use Rattle.machine.specs.Ledger.{Entry, Ledger, Name, code_bytes, page_bytes, reaches, overlap, unlocked, is_of, is_at}
use Rattle.machine.specs.Ledger.{in_context, in_partition, is_named, lacks_slot, inserts, answers, with_entries, line}
use Rattle.machine.specs.Demand3.{Live}
use Rattle.machine.specs.Frame.{entry_in}
use Rattle.machine.specs.declared.VirtualAddress.{VirtualAddress}
use Rattle.machine.specs.declared.Slot.{Slot}
use Rattle.machine.specs.declared.Key.TheVariants.{Virtual}
use Rattle.machine.specs.declared.Removal.TheVariants.{Page, Context, Unlocked, Everything}
use Rattle.machine.proofs.Pages.{shift-large}
use Rattle.machine.proofs.Alike.{hit, SideAlike}
use Rattle.machine.proofs.Insertion.{overlaps-live, length_removed, count-removed, count_set-used}
use Rattle.machine.proofs.Insertion.{slot-had, Displacement, placed-says, length_inserted, displaced_share}
use Rattle.machine.proofs.Insertion.{new_share, count-inserted}
use Rattle.machine.proofs.Sound.{live-parts, owner-agrees, answers-live, one-answers, sound-slot, empty_sound_lem, sound-removed, sound-set_used}
use Rattle.machine.proofs.Sound.{sound-inserted}
use Rattle.machine.proofs.State.{key_address_lem}

-- ---- tests
pub eqb-self : (n : ℕ) → eqb n n ≡ true
eqb-self n = eq-eqb n n refl

same_self : (b : Bool) → beq b b ≡ true
same_self true = refl
same_self false = refl

same-yes : (b : Bool) → beq b true ≡ b
same-yes true = refl
same-yes false = refl

same-no : (b : Bool) → beq b false ≡ not b
same-no true = refl
same-no false = refl

same_true : (a b : Bool) → beq a b ≡ true → a ≡ b
same_true true true h = refl
same_true true false h = sym h
same_true false true h = h
same_true false false h = refl

not-or : (a b : Bool) → (not a && not b) ≡ not (a || b)
not-or true b = refl
not-or false b = refl

ruleset conj = (and_left, and_right, eqb-true, same_true)

-- ---- a slot and its entry
-- a listed code's page has the ledger's bytes
pub code_bytes_lem : (code : ℕ) → listed code ≡ true → code_bytes code ≡ page_size code
unfolding listed page_shift
code_bytes_lem code h =
    by-test (eqb code 0) (λ e. rw e) (λ e0.
    by-test (eqb code 1) (λ e. rw (e0, e)) (λ e1.
    by-test (eqb code 3) (λ e. rw (e0, e1, e)) (λ e3.
    let e5 : eqb code 5 ≡ true = rw (e0, e1, e3) at h in
    rw (e0, e1, e3, e5))))

-- an address is in a page's bytes exactly where it rounds down to the page's start
pub reaches-holds : (x : Slot) → slot_sound x ≡ true → is_live x ≡ true → (a : ℕ) → reaches (entry_in x) a ≡ holds x a
unfolding word_sound
reaches-holds x h l a =
    let k : ℕ = page_shift (size_code x) in
    let w : word_sound x.word ≡ true = (live-parts x h l).word in
    let b : page_bytes x.word ≡ 2 ^ k = code_bytes_lem (size_code x) (search conj) in
    let start : x.page / 2 ^ k * 2 ^ k ≡ x.page = (live-parts x h l).start in
    rw b (both_ways (leb x.page a && ltb a (x.page + 2 ^ k)) (holds x a)
    (λ r.
    let low : x.page ≤ a = leb-true _ _ (and_left _ _ r) in
    let top : a < x.page + 2 ^ k = ltb-true _ _ (and_right (leb x.page a) _ r) in
    let q : (x.page / 2 ^ k * 2 ^ k + (a - x.page)) / 2 ^ k ≡ x.page / 2 ^ k = high (x.page / 2 ^ k) k (omega arith) in
    let e : x.page / 2 ^ k * 2 ^ k + (a - x.page) ≡ a = omega arith in
    eq-eqb _ _ (ap (λ n. n * 2 ^ k) (rw e at q) ∙ start))
    (λ r.
    let e : a / 2 ^ k * 2 ^ k ≡ x.page = eqb-true _ _ r in
    and_both _ _ (le-leb x.page a (omega (arith, split a k))) (lt-ltb a (x.page + 2 ^ k) (omega (arith, split a k, mod-lt a (pow_pos k))))))

-- two bits are equal where both or neither are 1
bit-same : (a b : ℕ) → a < 2 → b < 2 → eqb a 1 ≡ eqb b 1 → a ≡ b
bit-same a b p q e =
    by-test (eqb b 1)
    (λ t. omega (arith, eqb-true b 1 t, eqb-true a 1 (e ∙ t)))
    (λ t.
    let x : a ≡ 1 → ⊥ = eqb-false a 1 (e ∙ t) in
    let y : b ≡ 1 → ⊥ = eqb-false b 1 t in
    omega arith)

-- owner words are equal where partition, real bit and context are
owner-same : (x y : Slot) → (eqb (partition_of x) (partition_of y) && (beq (is_real x) (is_real y) && eqb (context_of x) (context_of y))) ≡ eqb
    x.owner y.owner
owner-same x y =
    both_ways _ _
    (λ h.
    let p : partition_of x ≡ partition_of y = search conj in
    let r : is_real x ≡ is_real y = search conj in
    let c : context_of x ≡ context_of y = search conj in
    let b : x.owner / 2 ^ 13 % 2 ≡ y.owner / 2 ^ 13 % 2 = bit-same _ _ (omega arith) (omega arith) r in
    eq-eqb _ _ (whole x.owner ∙ rw (p, b, c) (sym (whole y.owner))))
    (λ h.
    let e : x.owner ≡ y.owner = eqb-true _ _ h in
    rw (e, same_self (is_real y), eqb-self (partition_of y)) (eqb-self (context_of y)))
  where
    whole : (w : ℕ) → w ≡ w / 2 ^ 14 * 2 ^ 14 + w / 2 ^ 13 % 2 * 2 ^ 13 + w % 2 ^ 13
    whole w = omega arith

-- a test of live slots and the ledger's test of their entries say the same
pub record SameTest (q : Slot → Bool) (p : Entry → Bool) : Type 0 where
  pub agree : (x : Slot) → slot_sound x ≡ true → is_live x ≡ true → q x ≡ p (entry_in x)
  pub live : (x : Slot) → q x ≡ true → is_live x ≡ true

pub overlap-test : (new : Slot) → slot_sound new ≡ true → is_live new ≡ true → SameTest (overlaps new) (overlap (entry_in new))
unfolding overlaps overlap
overlap-test new h l = record {
  agree = λ x hx lx. rw (l, lx, owner-same new x, reaches-holds new h l x.page, reaches-holds x hx lx new.page);
  live = λ x e. (overlaps-live new x e).1;
}

-- the key of a partition and a context that fit
pub key_fits : (partition : ℕ) (real : Bool) (context : ℕ) (address : VirtualAddress) → partition < 8 → context < 2 ^ 13
    → KeyFits (key_of real partition context address)
key_fits partition true context address p c = p
key_fits partition false context address p c = (p, c)

-- whose entries a key asks for: on a real one the context is not compared
pub owner-test : (partition : ℕ) (real : Bool) (context : ℕ) (address : VirtualAddress)
    → SameTest (is_compared (key_of real partition context address)) (is_of partition real context)
unfolding is_compared is_of
owner-test partition real context address = record {
  agree = λ x h l. agree real x l;
  live = λ x e. and_right (agrees (key_of real partition context address) x) _ e;
}
  where
    agree : (real : Bool) (x : Slot) → is_live x ≡ true → is_compared (key_of real partition context address) x ≡ is_of partition real context (entry_in x)
    agree true x l = rw (l, same-yes (is_real x)) (and_assoc (eqb (partition_of x) partition) (is_real x) true)
    agree false x l = rw (l, same-no (is_real x)) (and-true _)

-- and whether the page holds the address
pub key-test : (partition : ℕ) (real : Bool) (context : ℕ) (address : VirtualAddress)
    → SameTest (answers_to (key_of real partition context address)) (is_at partition real context address.0)
unfolding answers_to is_at
key-test partition real context address = record {
  agree = λ x h l. rw ((owner-test partition real context address).agree x h l, key_address_lem real partition context address, reaches-holds x h l address.0);
  live = λ x e. answers-live (key_of real partition context address) x e;
}

-- a demap page asks for the same key
pub page-test : (partition : ℕ) (real : Bool) (context : ℕ) (address : VirtualAddress)
    → SameTest (removes (Page (key_of real partition context address))) (is_at partition real context address.0)
unfolding removes
page-test partition real context address = key-test partition real context address

pub context-test : (partition context : ℕ) → partition < 8 → context < 2 ^ 13 → SameTest (removes (Context partition context)) (in_context partition context)
unfolding removes in_context
context-test partition context p c = record {
  agree = λ x h l. rw l (owner-agrees (Virtual partition context (record { 0 = 0 })) x (p, c) h);
  live = λ x e. and_left _ _ e;
}

pub partition-test : (partition : ℕ) → SameTest (removes (Unlocked partition)) (in_partition partition)
unfolding removes in_partition
partition-test partition = record { agree = λ x h l. rw l; live = λ x e. and_left _ _ e }

pub candidate-test : SameTest candidate unlocked
candidate-test = record { agree = λ x h l. rw l; live = λ x e. and_left _ _ e }

pub live_test : SameTest is_live (λ _. true)
live_test = record { agree = λ x h l. l; live = λ x e. e }

pub everything-test : SameTest (removes Everything) (λ _. true)
unfolding removes
everything-test = live_test

-- on a sound slot the test of the entry is the test of the slot
pub same-hit : {q : Slot → Bool} {p : Entry → Bool} → SameTest q p → (x : Slot) → slot_sound x ≡ true → q x ≡ hit p x
same-hit {q} t x h = by-test (is_live x) (λ l. rw l (t.agree x h l)) (λ l. rw l (by-test (q x) (λ e. clash (t.live x e) l) (λ e. e)))

-- ---- equal entries
pub same_entry : Entry → Entry → Bool
same_entry e x =
    eqb e.partition x.partition && (beq e.real x.real && (eqb e.context x.context
    && (eqb e.page x.page && (beq e.locked x.locked && eqb e.word x.word))))

pub entry-self : (e : Entry) → same_entry e e ≡ true
unfolding same_entry
entry-self e = simp (eqb-self, same_self)

pub entry-same : (e x : Entry) → same_entry e x ≡ true → e ≡ x
unfolding same_entry
entry-same e x h =
    let a : e.partition ≡ x.partition = search conj in
    let b : e.real ≡ x.real = search conj in
    let c : e.context ≡ x.context = search conj in
    let d : e.page ≡ x.page = search conj in
    let f : e.locked ≡ x.locked = search conj in
    let g : e.word ≡ x.word = search conj in
    λ i. record { partition = a i; real = b i; context = c i; page = d i; locked = f i; word = g i }

-- the used bit is no part of the entry
blind : (p : Entry → Bool) (x : Slot) (flags : ℕ) → flags % 2 ≡ x.flags % 2
    → hit p (record { owner = x.owner; page = x.page; word = x.word; flags = flags }) ≡ hit p x
blind p x flags e = rw e

-- ---- names
tick-same : (a b : Bool) → tick a ≡ tick b → a ≡ b
tick-same true true e = refl
tick-same true false e = absurd (omega arith)
tick-same false true e = absurd (omega arith)
tick-same false false e = refl

-- the name that the unit's answer gives of a displaced entry
abbrev pub name_of : Slot → Name
name_of x = record { partition = partition_of x; real = tick (is_real x); place = x.page + context_of x; word = x.word }

pub named_self : (x : Slot) → is_named (name_of x) (entry_in x) ≡ true
unfolding is_named
named_self x = simp eqb-self

-- pages start at multiples of 2^13
pub aligned : (x : Slot) → slot_sound x ≡ true → is_live x ≡ true → (q : ℕ) × (x.page ≡ q * 2 ^ 13)
unfolding word_sound
aligned x h l =
    let k : ℕ = page_shift (size_code x) in
    let w : word_sound x.word ≡ true = (live-parts x h l).word in
    let e : (k - 13) + 13 ≡ k = omega (arith, shift-large (size_code x) (search conj)) in
    let f : 2 ^ k ≡ 2 ^ (k - 13) * 2 ^ 13 = ap (λ n. 2 ^ n) (sym e) ∙ pow-add 2 (k - 13) 13 in
    (x.page / 2 ^ k * 2 ^ (k - 13), sym (live-parts x h l).start ∙ ap (λ n. x.page / 2 ^ k * n) f ∙ sym (mul_assoc _ _ _))

-- so a place tells page and context apart
place-parts : (x y : Slot) → slot_sound x ≡ true → is_live x ≡ true → slot_sound y ≡ true → is_live y ≡ true
    → x.page + context_of x ≡ y.page + context_of y → (x.page ≡ y.page) × (context_of x ≡ context_of y)
place-parts x y hx lx hy ly e =
    let a = aligned x hx lx in
    let b = aligned y hy ly in
    omega (arith, a.1, b.1)

-- and two entries of one name overlap
named-overlap : (d : Name) (x y : Slot) → slot_sound x ≡ true → is_live x ≡ true → slot_sound y ≡ true → is_live y ≡ true
    → is_named d (entry_in x) ≡ true → is_named d (entry_in y) ≡ true → overlaps x y ≡ true
unfolding is_named overlaps
named-overlap d x y hx lx hy ly dx dy =
    let px : d.partition ≡ partition_of x = search conj in
    let py : d.partition ≡ partition_of y = search conj in
    let rx : d.real ≡ tick (is_real x) = search conj in
    let ry : d.real ≡ tick (is_real y) = search conj in
    let ax : d.place ≡ x.page + context_of x = search conj in
    let ay : d.place ≡ y.page + context_of y = search conj in
    let e = place-parts x y hx lx hy ly (sym ax ∙ ay) in
    let start : page_start (size_code x) y.page ≡ x.page = rw (← e.0) (live-parts x hx lx).start in
    let owner : eqb x.owner y.owner ≡ true =
    sym (owner-same x y) ∙ rw (eq-eqb _ _ (sym px ∙ py), tick-same (is_real x) (is_real y) (sym rx ∙ ry), same_self (is_real y)) (eq-eqb _ _ e.1) in
    rw (lx, ly, owner, eq-eqb _ _ start)

-- ---- alike
pub alike-empty : (n : ℕ) → SideAlike n (replicate n no_slot) []
unfolding count
alike-empty n = record { size = length-replicate n no_slot; sound = empty_sound_lem n; same = λ p. None p n }
  where
    None : (p : Entry → Bool) (k : ℕ) → count (hit p) (replicate k no_slot) ≡ 0
    None p zero = refl
    None p (suc k) = omega (arith, None p k)

-- what the displacement of x is to the ledger, whatever name it is told that is x's
pub record DisplacedSays (n : ℕ) (new : Slot) (s : List Slot) (m : List Entry) (x : Slot) : Type 0 where
  pub full : length m ≡ n
  pub apart : count (overlap (entry_in new)) m ≡ 0
  pub live : is_live x ≡ true
  pub sound : slot_sound x ≡ true
  pub free : unlocked (entry_in x) ≡ true
  pub listed : Live (entry_in x) m
  pub found : (d : Name) → is_named d (entry_in x) ≡ true → find (λ e. is_named d e && unlocked e) m ≡ Some (entry_in x)
  pub after : (d : Name) → is_named d (entry_in x) ≡ true → SideAlike n (inserted candidate new s) (without (is_named d) m ++ (entry_in new ∷ []))

module _ {n : ℕ} {s : List Slot} {m : List Entry} (h : SideAlike n s m) where
  all_sound : all_of slot_sound s ≡ true
  unfolding side_sound
  all_sound = and_left _ _ h.sound

  -- ---- counts and demaps
  pub alike-count : {q : Slot → Bool} {p : Entry → Bool} → SameTest q p → count q s ≡ count p m
  alike-count {q} {p} t = count-where slot_sound q (hit p) s all_sound (same-hit t) ∙ h.same p

  -- what a test finds among those not taken
  count-spared : {q : Slot → Bool} {p : Entry → Bool} → SameTest q p → (r : Entry → Bool) → count (λ x. not (q x) && hit r x) s ≡ count r (without p m)
  count-spared {q} {p} t r =
      count-where slot_sound _ (hit (λ e. not (p e) && r e)) s all_sound
      (λ x k. by-test (is_live x) (λ l. rw (l, t.agree x k l)) (λ l. rw l (and-false (not (q x)))))
      ∙ h.same _ ∙ sym (count-passing r _ m)

  pub alike-removed : {q : Slot → Bool} {p : Entry → Bool} → SameTest q p → SideAlike n (removed q s) (without p m)
  alike-removed {q} {p} t = record {
    size = length_removed q s ∙ h.size;
    sound = sound-removed q s h.sound;
    same = λ r. count-removed q (hit r) refl s ∙ count-spared t r;
  }

  -- invalidation
  pub alike-emptied : SideAlike n (removed (removes Everything) s) []
  unfolding removes count
  alike-emptied =
      let k : SideAlike n (removed is_live s) (without (λ _. true) m) = alike-removed live_test in
      record { size = k.size; sound = k.sound; same = λ r. k.same r ∙ count-passing r _ m ∙ count_none _ m (λ _. refl) }

  -- ---- lookups
  pub alike-used : (i : ℕ) → is_live (get_or s i no_slot) ≡ true → SideAlike n (set_used i s) m
  alike-used i l = record {
    size = length-set s i _ ∙ h.size;
    sound = sound-set_used s i h.sound l;
    same = λ p. count_set-used (hit p) (λ x. blind p x (with_used x).flags (omega arith)) s i ∙ h.same p;
  }

  -- the entry of a live slot is in the list
  pub alike-live : (i : ℕ) → is_live (get_or s i no_slot) ≡ true → Live (entry_in (get_or s i no_slot)) m
  alike-live i l =
      let e : Entry = entry_in (get_or s i no_slot) in
      let within : i < length s = by-test (ltb i (length s)) (ltb-true _ _) (λ t. clash l (rw (get_or-eq_default s no_slot (ltb-false _ _ t)))) in
      let some-count : 1 ≤ count (same_entry e) m =
      omega (arith, h.same (same_entry e), count_at (hit (same_entry e)) s i no_slot within (and_both _ _ l (entry-self e))) in
      let j = count_index (same_entry e) m e some-count in
      (j.0, j.1, sym (entry-same e _ j.2))

  module _ {q : Slot → Bool} {p : Entry → Bool} (t : SameTest q p) where
    pub alike-nothing : first q s ≡ None → find p m ≡ None
    alike-nothing f = find-zero p m (sym (alike-count t) ∙ none-count q s (found_none no_slot q s f))

    pub alike-found : (i : ℕ) → count p m ≤ 1 → first q s ≡ Some i
        → (is_live (get_or s i no_slot) ≡ true) × (find p m ≡ Some (entry_in (get_or s i no_slot)))
    alike-found i one f =
        let a : q (get_or s i no_slot) ≡ true = (found_at no_slot q s i f).1 in
        let l : is_live (get_or s i no_slot) ≡ true = t.live _ a in
        (l, find-only p m _ (sym (t.agree _ (sound-slot s i h.sound) l) ∙ a) (alike-live i l) one)

  -- at most one entry is found at a key
  pub alike-one : (partition : ℕ) (real : Bool) (context : ℕ) (address : VirtualAddress) → partition < 8 → context < 2 ^ 13
      → count (is_at partition real context address.0) m ≤ 1
  alike-one partition real context address p c =
      rw (← (alike-count (key-test partition real context address))) (one-answers _ s (key_fits partition real context address p c) h.sound)

  -- ---- names
  -- a name is that of one entry at most
  pub named-once : (d : Name) → count (is_named d) m ≤ 1
  unfolding side_sound
  named-once d =
      let q : Slot → Bool = λ x. slot_sound x && hit (is_named d) x in
      let e : count q s ≡ count (hit (is_named d)) s = count-where slot_sound q (hit (is_named d)) s all_sound (λ x k. rw k) in
      let one : count q s ≤ 1 = count-one overlaps q s both (and_right (all_of slot_sound s) _ h.sound) in
      omega (arith, h.same (is_named d))
    where
      both : (x y : Slot) → (slot_sound x && hit (is_named d) x) ≡ true → (slot_sound y && hit (is_named d) y) ≡ true → overlaps x y ≡ true
      both x y a b = named-overlap d x y (search conj) (search conj) (search conj) (search conj) (search conj) (search conj)

  -- ---- insertion
  -- the list is full where the side is
  pub alike-full : eqb (length m) n ≡ not (any_of is_empty s)
  alike-full =
      let r : count is_live s + count is_empty s ≡ length s = count-rest is_live s in
      let e : length m + count is_empty s ≡ n = omega (arith, count-all m, alike-count live_test, h.size) in
      both_ways (eqb (length m) n) (eqb (count is_empty s) 0)
      (λ t. eq-eqb (count is_empty s) 0 (omega (arith, eqb-true (length m) n t)))
      (λ t. eq-eqb (length m) n (omega (arith, eqb-true (count is_empty s) 0 t)))
      ∙ zero-none is_empty s

  -- none passes where none does
  pub alike-zero : {q : Slot → Bool} {p : Entry → Bool} → SameTest q p → none_passes p m ≡ not (any_of q s)
  alike-zero {q} {p} t = rw (how_many_lem p m, ← (alike-count t)) (zero-none q s)

  module _ (new : Slot) (k : slot_sound new ≡ true) (l : is_live new ≡ true) where
    -- number 13
    pub alike-lacks : lacks_slot n (entry_in new) m ≡ not (has_slot candidate new s)
    unfolding has_slot
    alike-lacks = rw (
      alike-full,
      alike-zero candidate-test,
      alike-zero (overlap-test new k l),
      not-or (any_of candidate s) (any_of (overlaps new) s),
      not-or (any_of is_empty s) (any_of candidate s || any_of (overlaps new) s),
    )

    -- an entry makes way where no slot is empty and none overlaps
    pub alike-crowded : (eqb (length m) n && none_passes (overlap (entry_in new)) m) ≡ not (any_of is_empty s || any_of (overlaps new) s)
    alike-crowded = rw (alike-full, alike-zero (overlap-test new k l), not-or (any_of is_empty s) (any_of (overlaps new) s))

    counts : (r : Entry → Bool) → count (hit r) (inserted candidate new s) + displaced_share (hit r) (placed candidate new s)
        ≡ count r (without (overlap (entry_in new)) m) + new_share (hit r) new (placed candidate new s)
    counts r =
        rw (count-spared (overlap-test new k l) r) at
        (count-inserted (hit r) (λ x e. rw (not-true (is_live x) e)) (λ x. blind r x (without_used x).flags (omega arith)) candidate new s)

    -- with a slot empty or made so
    pub alike-done : placed candidate new s ≡ Ok None
        → ((eqb (length m) n && none_passes (overlap (entry_in new)) m) ≡ false)
        × SideAlike n (inserted candidate new s) (without (overlap (entry_in new)) m ++ (entry_in new ∷ []))
    unfolding count
    alike-done d =
        let room : (any_of is_empty s || any_of (overlaps new) s) ≡ true = rw d at (placed-says candidate new s) in (
          alike-crowded ∙ ap not room,
          record {
            size = length_inserted candidate new s ∙ h.size;
            sound = sound-inserted new k candidate s h.sound;
            same = λ r.
                let c : count (hit r) (inserted candidate new s) + 0 ≡ count r (without (overlap (entry_in new)) m) + tick (r (entry_in new)) =
                rw (d, l) at (counts r) in
                omega (arith, count-append r (without (overlap (entry_in new)) m) (entry_in new ∷ []));
          },
        )

    -- with an entry displaced
    pub alike-displaced : (x : Slot) → placed candidate new s ≡ Ok (Some x) → DisplacedSays n new s m x
    unfolding count
    alike-displaced x d =
        let w : Displacement candidate new s x = rw d at (placed-says candidate new s) in
        let i : ℕ = w.index in
        let lx : is_live x ≡ true = and_left _ _ w.allowed in
        let full : (eqb (length m) n && none_passes (overlap (entry_in new)) m) ≡ true = alike-crowded ∙ rw (w.full, w.apart) in
        let apart : count (overlap (entry_in new)) m ≡ 0 = sym (how_many_lem _ m) ∙ search conj in
        let listed : Live (entry_in x) m = rw w.there at (alike-live i (rw w.there lx)) in
        record {
          full = search conj;
          apart = apart;
          live = lx;
          sound = rw w.there at (sound-slot s i h.sound);
          free = and_right (is_live x) _ w.allowed;
          listed = listed;
          found = λ c t.
              find-only (λ e. is_named c e && unlocked e) m (entry_in x) (and_both _ _ t (and_right (is_live x) _ w.allowed)) listed
              (omega (arith, named-once c, count-le (λ e. is_named c e && unlocked e) (is_named c) m (λ e. and_left _ _)));
          after = λ c t. record {
            size = length_inserted candidate new s ∙ h.size;
            sound = sound-inserted new k candidate s h.sound;
            same = λ r.
                let e : count (hit r) (inserted candidate new s) + tick (r (entry_in x)) ≡ count r m + tick (r (entry_in new)) =
                rw (d, l, lx, without-none (overlap (entry_in new)) m apart) at (counts r) in
                omega (
                  arith,
                  removed-once r (is_named c) m (entry_in x) t listed (named-once c),
                  count-passing r (λ e. not (is_named c e)) m,
                  count-append r (without (is_named c) m) (entry_in new ∷ []),
                );
          };
        }

-- ---- the ledger's insertion, told any name d
module _ {n : ℕ} {s : List Slot} (g : Ledger) (side : ℕ) (h : SideAlike n s (g.entries side)) (new : Slot) (k : slot_sound new ≡ true)
    (l : is_live new ≡ true) (d : Name) where
  pub inserts-refused : has_slot candidate new s ≡ false → inserts n g side (entry_in new) d ≡ answers g (line 5 13 0 0 0 0)
  unfolding inserts
  inserts-refused e = rw (alike-lacks h new k l, e)

  pub inserts-done : placed candidate new s ≡ Ok None
      → inserts n g side (entry_in new) d ≡ answers (with_entries g side (without (overlap (entry_in new)) (g.entries side) ++ (entry_in new ∷ [])))
      (line 0 0 0 0 0 0)
  unfolding inserts
  inserts-done e = rw (alike-lacks h new k l, slot-had candidate new s, e, (alike-done h new k l e).0)

  pub inserts-displaced : (x : Slot) → placed candidate new s ≡ Ok (Some x) → is_named d (entry_in x) ≡ true
      → inserts n g side (entry_in new) d
      ≡ answers (with_entries g side (without (is_named d) (g.entries side) ++ (entry_in new ∷ [])))
      (line 4 0 (partition_of x) (tick (is_real x)) (x.page + context_of x) x.word)
  unfolding inserts
  inserts-displaced x e t =
      let w : DisplacedSays n new s (g.entries side) x = alike-displaced h new k l x e in
      rw (alike-lacks h new k l, slot-had candidate new s, e, eq-eqb _ _ w.full, eq-eqb _ 0 (how_many_lem _ _ ∙ w.apart), w.found d t)
