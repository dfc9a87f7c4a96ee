-- The unit's tests and questions against the ledger's, the commands that touch no side, reset, and the entry of an insertion.
-- Assumes nothing.
use Rattle.std.proofs.Common.{Ok, Err, Result}
use Prim.Native.Nat.{ℕ, suc, ◌+◌, ◌*◌, ◌-◌, ◌/◌, ◌%◌, ◌^◌, ◌≤◌, ◌<◌}
use mathlib.Core.Path.{◌≡◌, refl, ap, sym, ◌∙◌}
use mathlib.Core.Bool.{Bool, true, false, not, cond, ◌&&◌, ◌||◌, and_comm, and_assoc, and-true, and-false}
use mathlib.Core.List.{List, [], ◌∷◌}
use native.Mathlib.Omega.{arith}
use native.Mathlib.Nat.{div-add-mod', mod-eq_of_lt, mul-mod_left}
use lib.Dec.{eqb, leb, ltb, leb-suc-suc}
use lib.ListN.{length, get_or, replicate, get_or-eq_default}
use borrow.Author.Tests.{eqb-true, eqb-false, leb-true, ltb-true, ltb-false, eq-eqb, ne_eqb, le-leb, lt-leb, lt-ltb, le-ltb}
use Rattle.laws.specs.Tests.{tick, all_below, all_of}
use Rattle.laws.proofs.Bools.{by-test, both_ways, clash, and_both, and_left, and_right}
use Rattle.laws.proofs.Belows.{below_at}
use Rattle.machine.specs.Pages.{in_range, listed, page_size, page_start}
use Rattle.machine.specs.Words.{bits, word_sound, word_insertable}
use Rattle.machine.specs.Slots.{no_slot}
use Rattle.machine.specs.Insertion.{entry_of, candidate, has_slot}
use Rattle.machine.specs.Permission.{guest_writable, least_mode, permitted}
use Rattle.machine.specs.Registers.{register, with_register, partition, mode, selected, tag_access, tag_address}
use Rattle.machine.specs.Registers.{tag_context, base_number, configuration_number, known, writable, base_allowed}
use Rattle.machine.specs.Registers.{configuration_allowed, allowed, reset_registers, reset_strands}
use Rattle.machine.specs.State.{Counts, State, side_of, with_registers, reset}
use Rattle.machine.specs.Questions.{Question, question, refusal_number, flag_real, flag_locked, key_of, insertion}
use Rattle.machine.specs.Questions.{kind_side, selector_fits, nucleus_fetch, size_fits, asked_insertion, asked, ask, verdict}
use Rattle.machine.specs.Step.{act}
use Rattle.machine.specs.Tsb.{tsb_offset, tsb_pointer, pointer}
use Rattle.machine.specs.Stream.{answer_bytes}
use Rattle.machine.specs.Ledger.{Ledger, start, writes, page_bytes, code_listed, address_good, word_good}
use Rattle.machine.specs.Ledger.{register_known, register_writable, value_good, context_picked, tag_of, line}
use Rattle.machine.specs.Ledger.{new_entry, first_no, selector_good, mode_allows, guest_writes, insertion_questions, questions}
use Rattle.machine.specs.Ledger.{pointer_of, pointers, recent, thousandths}
use Rattle.machine.specs.Places.{row, outcomes_word}
use Rattle.machine.specs.Frame.{entry_in}
use Rattle.machine.specs.Views.{View, view}
use Rattle.machine.specs.Views as views
use Rattle.machine.specs.declared.VirtualAddress.{VirtualAddress}
use Rattle.machine.specs.declared.Command.{Command}
use Rattle.machine.specs.declared.Command.TheVariants as command
use Rattle.machine.specs.declared.Refusal.{Refusal}
use Rattle.machine.specs.declared.Refusal.TheVariants as refusal
use Rattle.machine.specs.declared.Answer.TheVariants as answer
use Rattle.machine.proofs.Sides.{code_bytes_lem}
use Rattle.machine.proofs.Sound.{owner-parts}
use Rattle.machine.proofs.State.{register-written, registers-written, sound-file, strand-sound}
use Rattle.machine.proofs.State.{configuration-listed, sound-registers, reset-sound, passed-asked, known-below}
use Rattle.machine.proofs.State.{writable-below, kind_side_lem}
use Rattle.machine.proofs.Bytes.{line-answer}
use Rattle.machine.proofs.Records.{lookups-alike, rate-alike}
use Rattle.machine.proofs.Alike.{SideAlike, Alike}

ruleset conj = (and_left, and_right, eqb-true, ltb-true, leb-true)

ruleset tests = (arith, eqb-true, ltb-true, leb-true, eq-eqb, lt-ltb, le-leb)

-- ---- numbers and tests
-- the ledger says "at most" where the unit says "below"
pub at_most : (x k : ℕ) → leb x k ≡ ltb x (suc k)
at_most x k = sym (leb-suc-suc x k)

-- where the numbers below k are ruled out, k is the only one below k + 1
only : (x k : ℕ) → k ≤ x → eqb x k ≡ ltb x (suc k)
only x k h = both_ways (eqb x k) (ltb x (suc k)) (λ e. omega tests) (λ e. omega tests)

one-or-two : (x : ℕ) → 1 ≤ x → (eqb x 1 || eqb x 2) ≡ ltb x 3
one-or-two x h =
    by-test (eqb x 1) (λ e. rw (e, lt-ltb x 3 (omega (arith, eqb-true)))) (λ e. rw e (only x 2 (omega (arith, eqb-false x 1 e))))

between : (j x k : ℕ) → j ≤ x → (leb j x && leb x k) ≡ ltb x (suc k)
between j x k h = rw (le-leb j x h) (at_most x k)

and-turn : (a b c : Bool) → (a && (b && c)) ≡ (b && (c && a))
and-turn a b c = and_comm a (b && c) ∙ and_assoc b c a

-- the ledger takes the remainder away where the unit divides and multiplies
pub round-down : (a m : ℕ) → a - a % m ≡ a / m * m
round-down a m = omega (arith, div-add-mod' a m)

-- ---- addresses, pages and words
-- below the hole, in it, and past it
pub address_good_lem : (a : ℕ) → address_good a ≡ in_range a
unfolding in_range
address_good_lem a =
    let high : ℕ = 2 ^ 64 - 2 ^ 47 in
    by-test (ltb a (2 ^ 47))
    (λ e. rw (e, lt-leb (2 ^ 47) a (ltb-true _ _ e), lt-ltb a (2 ^ 64) (omega (arith, ltb-true))))
    (λ e. rw (e, le-leb (2 ^ 47) a (ltb-false _ _ e)) (by-test (ltb a high)
    (λ f. rw (f, lt-leb high a (ltb-true _ _ f)) (and-false (ltb a (2 ^ 64))))
    (λ f. rw (f, le-leb high a (ltb-false _ _ f)) (and-true (ltb a (2 ^ 64))))))

-- size codes
pub code_listed_lem : (code : ℕ) → code_listed code ≡ listed code
unfolding listed
code_listed_lem code = refl

-- a sound word's page
pub page_bytes_lem : (word : ℕ) → word_sound word ≡ true → page_bytes word ≡ page_size (word % 2 ^ 4)
unfolding word_sound
page_bytes_lem word h = code_bytes_lem (word % 2 ^ 4) (search conj)

pub live-word : (word : ℕ) → (leb (2 ^ 63) word && ltb word (2 ^ 64)) ≡ eqb (word / 2 ^ 63) 1
live-word word =
    both_ways (leb (2 ^ 63) word && ltb word (2 ^ 64)) (eqb (word / 2 ^ 63) 1)
    (λ e.
    let lo : 2 ^ 63 ≤ word = search conj in
    let hi : word < 2 ^ 64 = search conj in
    omega tests)
    (λ e. and_both (leb (2 ^ 63) word) _ (omega tests) (omega tests))

-- number 12
pub word_good_lem : (word : ℕ) → word_good word ≡ word_sound word
unfolding word_sound listed
word_good_lem word = rw (live-word word)

pub word_insertable_lem : (word : ℕ) → word_good word ≡ word_insertable word
unfolding word_insertable
word_insertable_lem word = word_good_lem word

-- ---- registers
-- 0 to 5, and 8 to k
numbers : (number k : ℕ) → (leb number 5 || (leb 8 number && leb number k)) ≡ cond (ltb number 6) true (cond (ltb number 8) false (ltb number (suc k)))
numbers number k =
    rw (at_most number 5, at_most number k)
    (by-test (ltb number 6) (λ e. rw e) (λ e. by-test (ltb number 8)
    (λ f. rw (e, f, lt-leb 8 number (ltb-true _ _ f)))
    (λ f. rw (e, f, le-leb 8 number (ltb-false _ _ f)))))

pub register_known_lem : (number : ℕ) → register_known number ≡ known number
unfolding known
register_known_lem number = numbers number 25

pub register_writable_lem : (number : ℕ) → register_writable number ≡ writable number
unfolding writable known
register_writable_lem number = rw (numbers number 21) (by-test (ltb number 22)
    (λ e. rw (e, lt-ltb number 26 (omega (arith, ltb-true number 22 e))))
    (λ e.
    let u = ltb-false number 22 e in
    rw (le-ltb number 6 (omega arith), le-ltb number 8 (omega arith), e)))

-- nothing but the two size codes
configuration-rest : (v : ℕ) → eqb v (v % 8 + v / 256 % 8 * 256) ≡ (eqb (bits 3 5 v) 0 && eqb (v / 2 ^ 11) 0)
configuration-rest v =
    both_ways (eqb v (v % 8 + v / 256 % 8 * 256)) (eqb (bits 3 5 v) 0 && eqb (v / 2 ^ 11) 0)
    (λ e.
    let low : v / 2 ^ 3 ≡ v / 256 % 8 * 2 ^ 5 = omega tests in
    and_both (eqb (bits 3 5 v) 0) _ (eq-eqb (bits 3 5 v) 0 (rw low (mul-mod_left (v / 256 % 8) (2 ^ 5)))) (omega tests))
    (λ e.
    let lo : bits 3 5 v ≡ 0 = search conj in
    let hi : v / 2 ^ 11 ≡ 0 = search conj in
    omega tests)

configuration-good : (v : ℕ) → (eqb v (v % 8 + v / 256 % 8 * 256) && (code_listed (v % 8) && code_listed (v / 256 % 8))) ≡ configuration_allowed v
unfolding configuration_allowed listed
configuration-good v = rw (configuration-rest v) (and-turn _ (code_listed (v % 8)) (code_listed (v / 256 % 8)))

-- what may be written may be read
writable-known : (number : ℕ) → writable number ≡ true → known number ≡ true
unfolding writable
writable-known number w = and_right (ltb number 22) _ w

-- a cell that is no register
no_register : (number value : ℕ) → known number ≡ false → allowed number value ≡ eqb value 0
unfolding known allowed
no_register number value h =
    by-test (ltb number 6) (λ e. clash (rw e) h) (λ e.
    let from : (k : ℕ) → k ≤ 6 → ltb number k ≡ false = λ k l. le-ltb number k (omega (arith, ltb-false number 6 e)) in
    rw (from 1 (omega arith), from 3 (omega arith), from 4 (omega arith), from 5 (omega arith), e)
    (by-test (ltb number 8) (λ f. rw f) (λ f.
    let past : ltb number 26 ≡ false = rw (e, f) at h in
    rw (f, le-ltb number 16 (omega (arith, ltb-false number 26 past)), le-ltb number 20 (omega (arith, ltb-false number 26 past)), past))))

-- two chains of choices, link by link
link : {A : Type 0} {a b : Bool} {x y z w : A} → a ≡ b → x ≡ z → (b ≡ false → y ≡ w) → cond a x y ≡ cond b z w
link {b} e p q = rw e (by-test b (λ t. rw t p) (λ t. rw t (q t)))

-- number 10, of a register that passed 9; it is asked of read-only ones too
pub value_good_lem : (number value : ℕ) → known number ≡ true → value_good number value ≡ allowed number value
unfolding known allowed base_allowed
value_good_lem number value w =
    link (only number 0 (omega arith)) (at_most value 7) (λ e0.
    link (one-or-two number (ltb-false _ _ e0)) (at_most value 8191) (λ e2.
    link (only number 3 (ltb-false _ _ e2)) (at_most value 2) (λ e3.
    link (only number 4 (ltb-false _ _ e3)) (at_most value 3) (λ e4.
    link (only number 5 (ltb-false _ _ e4)) (at_most value 1) (λ e5.
    let e7 : ltb number 8 ≡ false = by-test (ltb number 8) (λ f. clash (rw (e5, f) at w) refl) (λ f. f) in
    rw e7
    (link (between 8 number 15 (ltb-false _ _ e7)) refl (λ e15.
    link (between 16 number 19 (ltb-false _ _ e15)) (configuration-good value) (λ e19.
    rw (lt-ltb number 26 (known-below number w))))))))))

-- what may stand in a cell
pub cell-good : (number value : ℕ) → cond (register_known number) (value_good number value) (eqb value 0) ≡ allowed number value
cell-good number value = rw (register_known_lem number) (by-test (known number)
    (λ e. rw e (value_good_lem number value e))
    (λ e. rw e (sym (no_register number value e))))

-- ---- operands
-- number 7, of a demap
pub selector_good_lem : (side selector : ℕ) → selector_good side selector ≡ selector_fits side selector
selector_good_lem side selector = rw (at_most selector 2, and_comm (eqb selector 1) (eqb side 0))

size-good : (kind size : ℕ) → (leb size 3 && (not (eqb kind 0) || eqb size 2)) ≡ size_fits kind size
size-good kind size = rw (at_most size 3)

-- number 16: the ledger says what each mode may do, the unit which mode it takes
pub mode_allows_lem : (guest : Bool) (mode : ℕ) → cond (eqb mode 0) false (cond (eqb mode 1) guest true) ≡ leb (least_mode guest) mode
mode_allows_lem true mode = by-test (eqb mode 0)
    (λ e. rw (e, lt-leb 1 mode (omega tests)))
    (λ e. rw (e, le-leb 1 mode (omega (arith, eqb-false mode 0 e))) (by-test (eqb mode 1) (λ f. rw f) (λ f. rw f)))
mode_allows_lem false mode = by-test (eqb mode 0)
    (λ e. rw (e, lt-leb 2 mode (omega tests)))
    (λ e. rw e (by-test (eqb mode 1)
    (λ f. rw (f, lt-leb 2 mode (omega tests)))
    (λ f. rw (f, le-leb 2 mode (omega (arith, eqb-false mode 0 e, eqb-false mode 1 f))))))

-- the registers that are open to mode 1
guest_writes_lem : (r : ℕ) → guest_writes r ≡ guest_writable r
unfolding guest_writable
guest_writes_lem r =
    by-test (ltb r 1) (λ e. let z : r ≡ 0 = omega (arith, ltb-true r 1 e) in rw z) (λ e.
    rw (one-or-two r (ltb-false r 1 e), e) (by-test (ltb r 3) (λ f. rw f) (λ f.
    rw f (by-test (ltb r 5)
    (λ g. rw (g, ne_eqb r 5 (λ z. omega (arith, ltb-true r 5 g)), lt-leb 8 r (omega (arith, ltb-true r 5 g))))
    (λ g. rw (g, only r 5 (ltb-false r 5 g)) (by-test (ltb r 6) (λ i. rw i) (λ i.
    rw i (by-test (ltb r 8) (λ j. rw (j, lt-leb 8 r (ltb-true r 8 j))) (λ j. rw (j, between 8 r 21 (ltb-false r 8 j)))))))))))

-- ---- the registers of a state and a ledger that are alike
module _ {n : Counts} {u : State} {l : Ledger} (a : Alike n u l) (strand : ℕ) (s : strand < 4) where
  access-selector : (kind selector : ℕ)
      → (selector_good (cond (eqb kind 0) 0 1) selector && not (eqb selector 2 && (eqb (l.registers strand 3) 0 && eqb kind 0)))
      ≡ (selector_fits (kind_side kind) selector && not (nucleus_fetch u.registers strand kind selector))
  access-selector kind selector =
      rw (a.registers strand 3 s (omega arith), selector_good_lem (kind_side kind) selector, and-turn (eqb kind 0) (eqb selector 2))

  pub allows : {guest granted : Bool} → guest ≡ granted → mode_allows l strand guest ≡ leb (least_mode granted) (mode u.registers strand)
  allows {granted} e = rw (e, a.registers strand 3 s (omega arith)) (mode_allows_lem granted (mode u.registers strand))

  -- of a selector that passed 7
  pub context_picked_lem : (selector : ℕ) → selector < 3 → context_picked l strand selector ≡ selected u.registers strand selector
  context_picked_lem selector h =
      rw (a.registers strand 1 s (omega arith), a.registers strand 2 s (omega arith))
      (by-test (eqb selector 0)
      (λ e. rw (eqb-true selector 0 e))
      (λ e. by-test (eqb selector 1)
      (λ f. rw (eqb-true selector 1 f))
      (λ f.
      let two : selector ≡ 2 = omega (arith, eqb-false selector 0 e, eqb-false selector 1 f) in
      rw two)))

  -- tag access, and the address in it
  pub tag_access_lem : (side : ℕ) → side < 2 → tag_of l strand side ≡ tag_access u.registers strand side
  tag_access_lem side h = a.registers strand (20 + side) s (omega arith)

  pub tag_address_lem : (side : ℕ) → side < 2 → tag_of l strand side - tag_of l strand side % 8192 ≡ (tag_address (tag_access u.registers strand side)).0
  tag_address_lem side h = rw (tag_access_lem side h) (round-down (tag_access u.registers strand side) 8192)

-- ---- first refusals
-- a verdict's number: 0 where the command passed
abbrev pub verdict_number : Result (Unit {0}) Refusal → ℕ
verdict_number (Ok _) = 0
verdict_number (Err r) = refusal_number r

-- the verdicts by their numbers
numbered : List (Result (Unit {0}) Refusal)
numbered =
    (Ok tt) ∷ (Ok tt) ∷ (Ok tt) ∷ (Ok tt) ∷ (Ok tt)
    ∷ Err refusal.Strand ∷ Err refusal.Side ∷ Err refusal.Selector ∷ Err refusal.Operand ∷ Err refusal.Register
    ∷ Err refusal.Value ∷ Err refusal.Address ∷ Err refusal.Word ∷ Err refusal.NoSlot
    ∷ Err refusal.Table ∷ Err refusal.NoLookup ∷ Err refusal.Permission ∷ []

verdict-back : (v : Result (Unit {0}) Refusal) → get_or numbered (verdict_number v) (Ok tt) ≡ v
unfolding numbered
verdict-back (Ok _) = refl
verdict-back (Err refusal.Strand) = refl
verdict-back (Err refusal.Side) = refl
verdict-back (Err refusal.Selector) = refl
verdict-back (Err refusal.Operand) = refl
verdict-back (Err refusal.Register) = refl
verdict-back (Err refusal.Value) = refl
verdict-back (Err refusal.Address) = refl
verdict-back (Err refusal.Word) = refl
verdict-back (Err refusal.NoSlot) = refl
verdict-back (Err refusal.Table) = refl
verdict-back (Err refusal.NoLookup) = refl
verdict-back (Err refusal.Permission) = refl

-- verdicts are told apart by their numbers
pub same_number : (v w : Result (Unit {0}) Refusal) → verdict_number v ≡ verdict_number w → v ≡ w
same_number v w e = sym (verdict-back v) ∙ ap (λ k. get_or numbered k (Ok tt)) e ∙ verdict-back w

pub number_passed : (v : Result (Unit {0}) Refusal) → verdict_number v ≡ 0 → v ≡ Ok tt
number_passed v e = same_number v (Ok tt) e

pub number-refused : (v : Result (Unit {0}) Refusal) (r : Refusal) → verdict_number v ≡ refusal_number r → v ≡ Err r
number-refused v r e = same_number v (Err r) e

passed-refused : {C : Type 0} {r : Refusal} → ◌≡◌ {A = Result (Unit {0}) Refusal} (Err r) (Ok tt) → C
passed-refused e = absurd (let z : ◌≡◌ {A = ℕ} 0 1 = cc in omega arith)

-- a refusal's number is not 0, and is a byte
pub refusal-positive : (r : Refusal) → refusal_number r ≡ 0 → ⊥
refusal-positive r e = passed-refused (number_passed (Err r) e)

pub refusal-small : (r : Refusal) → refusal_number r < 256
unfolding numbered
refusal-small r = by-test (ltb (refusal_number r) (length numbered))
    (λ e. omega (arith, ltb-true (refusal_number r) (length numbered) e))
    (λ e. passed-refused (sym (verdict-back (Err r)) ∙ get_or-eq_default numbered (Ok tt) (ltb-false (refusal_number r) (length numbered) e)))

-- the unit's questions beside the ledger's: the same numbers and answers, as long as all before were answered well.
-- The last of an insertion, number 13, the unit asks alone
pub data InStep (left : Bool) : List Question → List (ℕ × Bool) → Type 0 where
  done : left ≡ true → InStep left [] []
  slot : InStep left (question refusal.NoSlot left ∷ []) []
  next : {r : Refusal} {b c : Bool} {qs : List Question} {ps : List (ℕ × Bool)} → c ≡ b → (b ≡ true → InStep left qs ps)
      → InStep left (question r b ∷ qs) ((refusal_number r, c) ∷ ps)

pub first_no_lem : {left : Bool} {qs : List Question} {ps : List (ℕ × Bool)} → InStep left qs ps
    → verdict_number (ask qs) ≡ cond (eqb (first_no ps) 0) (cond left 0 13) (first_no ps)
unfolding ask first_no
first_no_lem (done e) = rw e
first_no_lem {left} slot = by-test left (λ t. rw t) (λ t. rw t)
first_no_lem (next {r} {b} e k) =
    rw e (by-test b (λ t. rw t (first_no_lem (k t))) (λ t. rw (t, ne_eqb (refusal_number r) 0 (refusal-positive r))))

-- whether a slot is to be had: number 13, which is asked of an insertion alone, and last
abbrev pub left_for : State → View → Bool
left_for u (views.insertion strand side flags word) = has_slot candidate (insertion u strand side flags word) (side_of u side)
left_for u (views.access strand kind selector size address) = true
left_for u views.other = true

abbrev pub slot_left : State → Command → Bool
slot_left u c = left_for u (view c)

-- pointers of a listed size
pointer_of_lem : (base code address : ℕ) → listed code ≡ true → tsb_pointer base code address ≡ pointer_of base code address
unfolding tsb_pointer tsb_offset pointer_of
pointer_of_lem base code address h = rw (code_bytes_lem code h, round-down base (2 ^ (13 + base % 16))) (omega arith)

module _ {n : Counts} {u : State} {l : Ledger} (a : Alike n u l) where
  -- 11 to 13
  insertion-in_step : (strand side flags word : ℕ) → strand < 4 → side < 2
      → InStep (has_slot candidate (insertion u strand side flags word) (side_of u side)) (asked_insertion u strand side flags word)
      (insertion_questions l strand side word)
  unfolding asked_insertion insertion_questions
  insertion-in_step strand side flags word s d =
      next (ap address_good (tag_address_lem a strand s side d) ∙ address_good_lem _) (λ _. next (word_insertable_lem word) (λ _. slot))

  in_step : (hv : Bool) (c : Command) → InStep (slot_left u c) (asked hv u c) (questions hv l c)
  unfolding asked questions permitted
  in_step hv (command.Write strand number value) =
      next (at_most strand 3) (λ s. next (register_writable_lem number) (λ w. next (value_good_lem number value (writable-known number w)) (λ _.
      next (allows a strand (ltb-true _ _ s) (guest_writes_lem number)) (λ _. done refl))))
  in_step hv (command.Insert strand side flags word) =
      next (at_most strand 3) (λ s. next (at_most side 1) (λ d. next (at_most flags 3) (λ _. next (allows a strand (ltb-true _ _ s) refl) (λ _.
      insertion-in_step strand side flags word (ltb-true _ _ s) (ltb-true _ _ d)))))
  in_step hv (command.DemapPage strand side selector flags address) =
      next (at_most strand 3) (λ s. next (at_most side 1) (λ d. next (selector_good_lem side selector) (λ _.
      next (at_most flags 1) (λ _. next (allows a strand (ltb-true _ _ s) refl) (λ _. next (address_good_lem address.0) (λ _. done refl))))))
  in_step hv (command.DemapContext strand side selector) =
      next (at_most strand 3) (λ s. next (at_most side 1) (λ d. next (selector_good_lem side selector) (λ _.
      next (allows a strand (ltb-true _ _ s) refl) (λ _. done refl))))
  in_step hv (command.DemapAll strand side) =
      next (at_most strand 3) (λ s. next (at_most side 1) (λ _. next (allows a strand (ltb-true _ _ s) refl) (λ _. done refl)))
  in_step hv (command.Invalidate side) = next (at_most side 1) (λ _. next refl (λ _. done refl))
  in_step hv (command.Access strand kind selector size address) =
      next (at_most strand 3) (λ s. next (at_most kind 4) (λ _.
      next (access-selector a strand (ltb-true _ _ s) kind selector) (λ _. next (size-good kind size) (λ _. done refl))))
  in_step hv (command.Read strand number) = next (at_most strand 3) (λ s. next (register_known_lem number) (λ _. done refl))
  in_step hv (command.Pointers strand side) =
      next (at_most strand 3) (λ s. next (at_most side 1) (λ _. next (allows a strand (ltb-true _ _ s) refl) (λ _. done refl)))
  in_step hv (command.Rate strand side) =
      next (at_most strand 3) (λ s. next (at_most side 1) (λ d. next (allows a strand (ltb-true _ _ s) refl) (λ _.
      next (lookups-alike a.records strand side (ltb-true _ _ s) (ltb-true _ _ d)) (λ _. done refl))))

  first-refusal : (hv : Bool) (c : Command) →
      let number : ℕ = first_no (questions hv l c) in
      verdict_number (verdict hv u c) ≡ cond (eqb number 0) (cond (slot_left u c) 0 13) number
  unfolding verdict
  first-refusal hv c = first_no_lem (in_step hv c)

  -- from 11 on
  pub insertion-number : (strand side flags word : ℕ) → strand < 4 → side < 2 →
      let number : ℕ = first_no (insertion_questions l strand side word) in
      verdict_number (ask (asked_insertion u strand side flags word))
      ≡ cond (eqb number 0) (cond (has_slot candidate (insertion u strand side flags word) (side_of u side)) 0 13) number
  insertion-number strand side flags word s d = first_no_lem (insertion-in_step strand side flags word s d)

  -- a command that the ledger refuses by 5 to 12, 15 or 16, the unit refuses by the same number
  pub refused-alike : (hv : Bool) (c : Command) → (first_no (questions hv l c) ≡ 0 → ⊥) → verdict_number (verdict hv u c) ≡ first_no (questions hv l c)
  refused-alike hv c h = first-refusal hv c ∙ rw (ne_eqb (first_no (questions hv l c)) 0 h)

  -- one that it does not refuse so passes, but for an insertion that finds no slot: 13
  pub passed-alike : (hv : Bool) (c : Command) → first_no (questions hv l c) ≡ 0 → verdict_number (verdict hv u c) ≡ cond (slot_left u c) 0 13
  passed-alike hv c h = first-refusal hv c ∙ rw h

  -- ---- commands that touch no side
  -- one write on both
  pub alike-registers : (strand number value : ℕ) → strand < 4 → number < 32 → allowed number value ≡ true
      → Alike n (with_registers u (with_register u.registers strand number value)) (writes l strand number value)
  alike-registers strand number value s r v = record {
    allowed = registers-written u.registers strand number value a.allowed s r v;
    registers = λ i k h j.
        let c : strand * 32 + number < length u.registers = omega (arith, sound-file u.registers a.allowed) in
        rw (register-written u.registers strand number value i k c r j, a.registers i k h j);
    itlb = a.itlb;
    dtlb = a.dtlb;
    records = a.records;
  }

  -- writes, reads and pointers that passed
  pub write-alike : (hv : Bool) (strand number value : ℕ) → verdict hv u (command.Write strand number value) ≡ Ok tt
      → Alike n (act u (command.Write strand number value)).state (writes l strand number value)
  unfolding act asked all_of
  write-alike hv strand number value v =
      let q = passed-asked hv u (command.Write strand number value) v in
      let s : strand < 4 = search conj in
      let w : writable number ≡ true = search conj in
      alike-registers strand number value s (omega (arith, writable-below number w)) (search conj)

  pub read-bytes : (hv : Bool) (strand number : ℕ) → verdict hv u (command.Read strand number) ≡ Ok tt
      → answer_bytes (act u (command.Read strand number)).answer ≡ line 3 0 0 0 (l.registers strand number) 0
  unfolding act answer_bytes asked all_of
  read-bytes hv strand number v =
      let q = passed-asked hv u (command.Read strand number) v in
      let s : strand < 4 = search conj in
      let k : known number ≡ true = search conj in
      rw (a.registers strand number s (omega (arith, known-below number k)))
      (line-answer 3 (register u.registers strand number) 0 (omega arith) (omega arith) (omega arith))

  pointer-alike : (strand side size : ℕ) → strand < 4 → side < 2 → size < 2 →
      let context = tag_context (tag_of l strand side) in
      pointer u.registers strand side size
      ≡ pointer_of (l.registers strand (base_number side context size)) (bits (8 * size) 3 (l.registers strand (configuration_number side context)))
      (tag_address (tag_of l strand side)).0
  pointer-alike strand side size s d z =
      let context : ℕ = tag_context (tag_access u.registers strand side) in
      let o : kind_side context < 2 = kind_side_lem context in
      rw (
        tag_access_lem a strand s side d,
        a.registers strand (base_number side context size) s (omega arith),
        a.registers strand
            (configuration_number side context) s (omega arith),
      )
      (pointer_of_lem _ _ _ (configuration-listed u.registers strand (configuration_number side context) size a.allowed s (omega arith) (omega arith) z))

  pub pointers-bytes : (hv : Bool) (strand side : ℕ) → verdict hv u (command.Pointers strand side) ≡ Ok tt
      → answer_bytes (act u (command.Pointers strand side)).answer ≡ (pointers l strand side).bytes
  unfolding act answer_bytes asked all_of pointers
  pointers-bytes hv strand side v =
      let q = passed-asked hv u (command.Pointers strand side) v in
      let s : strand < 4 = search conj in
      let d : side < 2 = search conj in
      let whole : (x : ℕ) → x / 2 ^ 0 ≡ x = λ x. omega arith in
      rw (
        pointer-alike strand side 0 s d (omega arith),
        pointer-alike strand side 1 s d (omega arith),
        round-down (tag_of l strand side) 8192,
        whole
            (l.registers strand (configuration_number side (tag_context (tag_of l strand side)))),
      )
      (line-answer 3 _ _ (omega arith) (omega arith) (omega arith))

  pub rate-bytes : (hv : Bool) (strand side : ℕ) → verdict hv u (command.Rate strand side) ≡ Ok tt
      → answer_bytes (act u (command.Rate strand side)).answer ≡ line 3 0 0 0 (thousandths (recent l strand side)) 0
  unfolding act answer_bytes asked all_of
  rate-bytes hv strand side v =
      let q = passed-asked hv u (command.Rate strand side) v in
      rw (rate-alike a.records strand side (search conj) (search conj)) (line-answer 3 _ 0 (omega arith) (omega arith) (omega arith))

pub write_bytes : (u : State) (strand number value : ℕ) → answer_bytes (act u (command.Write strand number value)).answer ≡ line 0 0 0 0 0 0
unfolding act answer_bytes
write_bytes u strand number value = line-answer 0 0 0 (omega arith) (omega arith) (omega arith)

-- a refused command's answer
pub refused-bytes : (r : Refusal) → answer_bytes (answer.Refused r) ≡ line 5 (refusal_number r) 0 0 0 0
unfolding answer_bytes
refused-bytes r = line-answer 5 0 0 (refusal-small r) (omega arith) (omega arith)

pub unsound-bytes : answer_bytes answer.Unsound ≡ line 5 1 0 0 0 0
unfolding answer_bytes
unsound-bytes = line-answer 5 0 0 (omega arith) (omega arith) (omega arith)

-- ---- reset
-- the 128 cells are compared by computing
pub reset-alike : (n : Counts) → SideAlike n.itlb (replicate n.itlb no_slot) [] → SideAlike n.dtlb (replicate n.dtlb no_slot) []
    → Alike n (reset n) start
unfolding reset reset_strands all_below row outcomes_word
reset-alike n i d = record {
  allowed = sound-registers n (reset n) (reset-sound n);
  registers = λ strand number s r. eqb-true _ _ (below_at (λ k. same strand k) 32 number (below_at (λ j. all_below (λ k. same j k) 32) 4 strand refl s) r);
  itlb = i;
  dtlb = d;
  records = record { seen = refl; newest = refl; older = refl };
}
  where
    same : ℕ → ℕ → Bool
    same strand number = eqb (cond (eqb number 3) 2 0) (register reset_registers strand number)

-- ---- the entry of an insertion
lock-back : (b : Bool) → eqb ((tick b + 2) % 2) 1 ≡ b
lock-back true = refl
lock-back false = refl

flag_locked_lem : (flags : ℕ) → flags < 4 → leb 2 flags ≡ flag_locked flags
flag_locked_lem flags h = both_ways (leb 2 flags) (flag_locked flags) (λ e. omega tests) (λ e. omega tests)

-- what stands in a new slot
entry_in_lem : (real : Bool) (p c : ℕ) (address : VirtualAddress) (locked : Bool) (word : ℕ) → p < 8 → c < 8192
    → entry_in (entry_of (key_of real p c address) locked word)
    ≡ record { partition = p; real = real; context = cond real 0 c; page = page_start (word % 2 ^ 4) address.0; locked = locked; word = word }
unfolding entry_of
entry_in_lem true p c address locked word h k =
    let o = owner-parts p true 0 in
    rw (o.0, o.1, o.2, mod-eq_of_lt h, lock-back locked)
entry_in_lem false p c address locked word h k =
    let o = owner-parts p false c in
    rw (o.0, o.1, o.2, mod-eq_of_lt h, mod-eq_of_lt k, lock-back locked)

-- the unit's new slot holds the ledger's new entry
pub insertion-entry : {n : Counts} {u : State} {l : Ledger} → Alike n u l → (strand side flags word : ℕ) → strand < 4 → side < 2
    → flags < 4 → word_sound word ≡ true
    → entry_in (insertion u strand side flags word) ≡ new_entry l strand side flags word
unfolding new_entry
insertion-entry {u} {l} a strand side flags word s d f h =
    let tag : ℕ = tag_access u.registers strand side in
    entry_in_lem (flag_real flags) (partition u.registers strand) (tag_context tag) (tag_address tag) (flag_locked flags) word
    (strand-sound u.registers strand a.allowed s).partitions (omega arith)
    ∙ rw (
      tag_address_lem a strand s side d,
      tag_access_lem a strand s side d,
      a.registers strand 0 s (omega arith),
      page_bytes_lem word h,
      round-down
          (tag_address tag).0 (page_size (word % 2 ^ 4)),
      flag_locked_lem flags f,
    )
