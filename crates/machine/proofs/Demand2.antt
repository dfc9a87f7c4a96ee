-- The fields of an entry word and the bound of physical addresses are as document 01 has them. Assumes nothing.
use Rattle.std.proofs.Common.{Some, None, Ok, Err, Option, Result}
use Prim.Native.Nat.{ℕ, ◌+◌, ◌-◌, ◌/◌, ◌%◌, ◌^◌, ◌<◌}
use mathlib.Core.Path.{◌≡◌, refl, ap, ◌∙◌}
use mathlib.Core.Bool.{Bool, true, false, not, ◌&&◌}
use mathlib.Core.List.{List}
use native.Mathlib.Omega.{arith}
use native.Mathlib.Nat.{mod-lt, div-eq_of_lt, lt_of_lt_of_le}
use lib.Dec.{eqb, ltb}
use lib.Pow.{pow_pos, pow_mono, field, shr-shr, mod-pow-add}
use lib.ListN.{get_or}
use borrow.Author.Tests.{ltb-true, ltb-false, lt-ltb}
use Rattle.laws.proofs.Bools.{by-test, clash}
use Rattle.laws.proofs.Walks.{found_at}
use Rattle.machine.specs.Pages.{in_range}
use Rattle.machine.specs.Words.{bits, unpacked, packed, fields, reach_of}
use Rattle.machine.specs.Slots.{no_slot, is_live, key_address, answers_to, lookup}
use Rattle.machine.specs.Insertion.{candidate, placed}
use Rattle.machine.specs.Registers.{mode}
use Rattle.machine.specs.State.{Counts, State, side_of, sound}
use Rattle.machine.specs.Questions.{insertion, verdict}
use Rattle.machine.specs.Access.{prepare_bypass, lookup_key, prepare, judge, translated_by, settle_judged, settle_looked, settle}
use Rattle.machine.specs.Step.{placed_answer, act, step_by, step}
use Rattle.machine.specs.Demand2.{IsBits, HasBits, Fields, Demand2}
use Rattle.machine.specs.declared.Tte.{Tte}
use Rattle.machine.specs.declared.Slot.{Slot}
use Rattle.machine.specs.declared.Key.{Key}
use Rattle.machine.specs.declared.Access.{Access}
use Rattle.machine.specs.declared.Trap.{Trap}
use Rattle.machine.specs.declared.Translation.{Translation}
use Rattle.machine.specs.declared.Prepared.{Prepared}
use Rattle.machine.specs.declared.Prepared.TheVariants as prepared
use Rattle.machine.specs.declared.Command.{Command}
use Rattle.machine.specs.declared.Command.TheVariants as command
use Rattle.machine.specs.declared.Answer.{Answer}
use Rattle.machine.specs.declared.Answer.TheVariants as answer
use Rattle.machine.proofs.Sound.{live-parts, answers-live, sound-slot}
use Rattle.machine.proofs.Matches.{looked-by}
use Rattle.machine.proofs.State.{sound-side}
use Rattle.machine.proofs.Words.{pack-unpack, physical-below}
use Rattle.machine.specs.declared.Refusal.{Refusal}
use Rattle.machine.specs.declared.NoSlot.{NoSlot}

-- ---- bits of bits
low_bit : (x m : ℕ) → x % 2 ^ (m + 1) % 2 ≡ x % 2
low_bit x m = rw (mod-pow-add x m 1) (omega arith)

-- the low n bits of a number are its own
within : (y n i : ℕ) → i < n → y % 2 ^ n / 2 ^ i % 2 ≡ y / 2 ^ i % 2
within y n i h =
    let m : ℕ = n - i - 1 in
    let e : m + 1 + i ≡ n = omega arith in
    rw (← e, field y (m + 1) i) (low_bit (y / 2 ^ i) m)

bits_are : (word k n : ℕ) → IsBits word k n (bits k n word)
bits_are word k n i =
    by-test (ltb i n)
    (λ t. rw t (within (word / 2 ^ k) n i (ltb-true i n t) ∙ rw (shr-shr word k i)))
    (λ t.
    let small : bits k n word < 2 ^ i = lt_of_lt_of_le (mod-lt _ (pow_pos n)) (pow_mono (ltb-false i n t)) in
    rw (t, div-eq_of_lt small))

bits-has : (word k n field : ℕ) → bits k n word ≡ field % 2 ^ n → HasBits word k n field
bits-has word k n field e i h = rw (← shr-shr word k i, ← within (word / 2 ^ k) n i h, e) (within field n i h)

-- ---- physical addresses
bypass-below : (file : List ℕ) (a : Access) (t : Translation) → prepare file a ≡ prepared.Bypass t → t.address.0 < 2 ^ 40
unfolding prepare
bypass-below file a t h =
    by-test (not (eqb (a.used.0 % 2 ^ a.size) 0)) (λ e. other (rw e at h)) (λ e.
    by-test (eqb (mode file a.strand) 0 && (not (eqb a.kind 0) && eqb a.selector 2)) (λ f. other (rw (e, f) at h)) (λ f.
    by-test (eqb (mode file a.strand) 2)
    (λ g. bypassed (rw (e, f, g) at h))
    (λ g. by-test (not (in_range a.used.0)) (λ i. other (rw (e, f, g, i) at h)) (λ i. looked (rw (e, f, g, i) at h)))))
  where
    other : {s : Trap} {tag : Option ℕ} → prepared.Stopped s tag ≡ prepared.Bypass t → t.address.0 < 2 ^ 40
    other z = absurd (let w : ◌≡◌ {A = ℕ} 0 1 = cc in omega arith)

    given : {p : Translation} → prepared.Bypass p ≡ prepared.Bypass t → p.address.0 < 2 ^ 40 → t.address.0 < 2 ^ 40
    given {p} z b = let is : p ≡ t = cc in rw (← is) b

    bypassed : prepare_bypass a.kind a.used ≡ prepared.Bypass t → t.address.0 < 2 ^ 40
    bypassed z =
        by-test (eqb (bits 39 1 a.used.0) 0) (λ e. given (rw e at z) (omega arith)) (λ e.
        by-test (eqb a.kind 4) (λ f. other (rw (e, f) at z)) (λ f.
        by-test (eqb a.kind 3) (λ g. other (rw (e, f, g) at z)) (λ g. given (rw (e, f, g) at z) (omega arith))))

    looked : prepared.Lookup ≡ prepared.Bypass t → t.address.0 < 2 ^ 40
    looked z = absurd (let w : ◌≡◌ {A = ℕ} 0 1 = cc in omega arith)

abbrev is_physical : Answer → Bool
is_physical (answer.Done k) = false
is_physical (answer.Physical t) = true
is_physical (answer.Trap t) = false
is_physical (answer.Read v w) = false
is_physical (answer.Displaced d) = false
is_physical (answer.Refused r) = false
is_physical answer.NotInTable = false
is_physical answer.Unsound = false

no_address : {C : Type 0} {x : Answer} {t : Translation} → is_physical x ≡ false → x ≡ answer.Physical t → C
no_address f e = clash (ap is_physical e) f

module _ (n : Counts) (u : State) (h : sound n u ≡ true) (a : Access) (t : Translation) where
  judged-below : (v : State) (p : Translation) (j : Result (Unit {0}) Trap) → p.address.0 < 2 ^ 40
      → (settle_judged v a p j).answer ≡ answer.Physical t → t.address.0 < 2 ^ 40
  judged-below v p (Err s) b e = no_address refl e
  judged-below v p (Ok _) b e = let is : p ≡ t = cc in rw (← is) b

  looked-below : (key : Key) → (settle_looked u a (lookup key (side_of u a.side))).answer ≡ answer.Physical t → t.address.0 < 2 ^ 40
  looked-below key =
      let s : List Slot = side_of u a.side in
      looked-by key s (λ f. (settle_looked u a f).answer ≡ answer.Physical t → t.address.0 < 2 ^ 40)
      (λ g e. no_address refl e)
      (λ i g e.
      let x : Slot = get_or s i no_slot in
      let live : is_live x ≡ true = answers-live key x (found_at no_slot (answers_to key) s i g).1 in
      let word = (live-parts x (sound-slot s i (sound-side n u h a.side).1) live).word in
      let p : Translation = translated_by x.word (reach_of x.word (key_address key)) in
      judged-below _ p (judge u.registers a x.word) (physical-below x.word word (record { 0 = key_address key })) e)

  settled-below : (p : Prepared) → prepare u.registers a ≡ p → (settle u a p).answer ≡ answer.Physical t → t.address.0 < 2 ^ 40
  settled-below (prepared.Stopped s tag) g e = no_address refl e
  settled-below (prepared.Bypass p) g e = bypass-below u.registers a t (g ∙ (let is : p ≡ t = cc in ap prepared.Bypass is))
  settled-below prepared.Lookup g e = looked-below (lookup_key u.registers a) e

placed_below : (r : Result (Option Slot) NoSlot) (t : Translation) → placed_answer r ≡ answer.Physical t → t.address.0 < 2 ^ 40
placed_below (Ok None) t e = no_address refl e
placed_below (Ok (Some x)) t e = no_address refl e
placed_below (Err _) t e = no_address refl e

-- nothing but an access answers with one
act-below : (n : Counts) (u : State) (c : Command) (t : Translation) → sound n u ≡ true → (act u c).answer ≡ answer.Physical t → t.address.0 < 2 ^ 40
unfolding act
act-below n u (command.Write strand number value) t h e = no_address refl e
act-below n u (command.Insert strand side flags word) t h e = placed_below (placed candidate (insertion u strand side flags word) (side_of u side)) t e
act-below n u (command.DemapPage strand side selector flags address) t h e = no_address refl e
act-below n u (command.DemapContext strand side selector) t h e = no_address refl e
act-below n u (command.DemapAll strand side) t h e = no_address refl e
act-below n u (command.Invalidate side) t h e = no_address refl e
act-below n u (command.Access strand kind selector size address) t h e = settled-below n u h _ t _ refl e
act-below n u (command.Read strand number) t h e = no_address refl e
act-below n u (command.Pointers strand side) t h e = no_address refl e
act-below n u (command.Rate strand side) t h e = no_address refl e

step-below : (hv : Bool) (n : Counts) (u : State) (c : Command) (t : Translation) → sound n u ≡ true → (step hv u c).answer ≡ answer.Physical t
    → t.address.0 < 2 ^ 40
unfolding step
step-below hv n u c t h = go (verdict hv u c)
  where
    go : (v : Result (Unit {0}) Refusal) → (step_by v u c).answer ≡ answer.Physical t → t.address.0 < 2 ^ 40
    go (Ok _) e = act-below n u c t h e
    go (Err r) e = no_address refl e

fields_fit : (t : Tte) → Fields (λ k n field. field < 2 ^ n) t → fields t ≡ true
unfolding fields
fields_fit t f =
    let below : (n x : ℕ) → x < 2 ^ n → ltb x (2 ^ n) ≡ true = λ n x. lt-ltb x (2 ^ n) in
    rw (
      below 1 t.v f.v,
      below 1 t.nfo f.nfo,
      below 6 t.soft2 f.soft2,
      below 43 t.address f.address,
      below 1 t.ie f.ie,
      below 1 t.e f.e,
      below 1 t.cp f.cp,
      below 1 t.cv f.cv,
      below 1 t.p f.p,
      below 1 t.ep f.ep,
      below 1 t.w f.w,
      below 2 t.soft f.soft,
      below 4 t.size f.size,
    )

pub demand2 : Demand2
unfolding packed unpacked
demand2 = record {
  unpacks = λ w.
      let whole : w / 2 ^ 0 ≡ w = omega arith in
      record {
        v = bits_are w 63 1;
        nfo = bits_are w 62 1;
        soft2 = bits_are w 56 6;
        address = bits_are w 13 43;
        ie = bits_are w 12 1;
        e = bits_are w 11 1;
        cp = bits_are w 10 1;
        cv = bits_are w 9 1;
        p = bits_are w 8 1;
        ep = bits_are w 7 1;
        w = bits_are w 6 1;
        soft = bits_are w 4 2;
        size = rw whole at (bits_are w 0 4);
      };
  packs = λ t.
      let has = bits-has (packed t) in (
        record {
          v = has 63 1 _ (omega arith);
          nfo = has 62 1 _ (omega arith);
          soft2 = has 56 6 _ (omega arith);
          address = has 13 43 _ (omega arith);
          ie = has 12 1 _ (omega arith);
          e = has 11 1 _ (omega arith);
          cp = has 10 1 _ (omega arith);
          cv = has 9 1 _ (omega arith);
          p = has 8 1 _ (omega arith);
          ep = has 7 1 _ (omega arith);
          w = has 6 1 _ (omega arith);
          soft = has 4 2 _ (omega arith);
          size = has 0 4 _ (omega arith);
        },
        omega arith,
      );
  fit = fields_fit;
  back = pack-unpack;
  physical = step-below;
}
