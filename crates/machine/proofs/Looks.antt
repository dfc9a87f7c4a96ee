-- One access of the unit and of the ledger, all but the lookup: the address used, the steps before the lookup, a miss, and what a found entry's word says.
-- Assumes nothing.
use Rattle.std.proofs.Common.{Some, None, Option}
use Prim.Native.Nat.{ℕ, ◌+◌, ◌*◌, ◌-◌, ◌/◌, ◌%◌, ◌^◌, ◌≤◌, ◌<◌}
use mathlib.Core.Path.{◌≡◌, refl, ap, sym, ◌∙◌}
use mathlib.Core.Bool.{Bool, true, false, not, cond, ◌&&◌, ◌||◌, and_comm, and-false}
use mathlib.Core.List.{List, [], ◌∷◌}
use native.Mathlib.Omega.{arith}
use native.Mathlib.Nat.{one-mul}
use lib.Dec.{eqb, ltb, leb}
use lib.Pow.{split}
use lib.ListN.{get_or}
use borrow.Author.Tests.{eq-eqb, eqb-true, eqb-false, ne_eqb, lt-ltb, le-ltb, lt-leb, ltb-true}
use Rattle.laws.specs.Tests.{tick, any_of}
use Rattle.laws.proofs.Bools.{by-test, clash, and_left, and_right, or_left, or_right}
use Rattle.machine.specs.Pages.{listed, page_shift}
use Rattle.machine.specs.Words.{bits, word_sound, frame, reach_of, physical_by, physical_at}
use Rattle.machine.specs.Slots.{miss}
use Rattle.machine.specs.Registers.{with_register, mode, translates, selected, allowed}
use Rattle.machine.specs.Registers as registers
use Rattle.machine.specs.State.{Counts, State, with_registers}
use Rattle.machine.specs.Questions.{kind_side, key_of}
use Rattle.machine.specs.Access.{address_used, exception, trap_tag, bypass_to, prepare_bypass, lookup_key, prepare, miss_trap}
use Rattle.machine.specs.Access.{fault_type, judge, trap_number, trap_fault, trap_registers, Stepped, trap_to}
use Rattle.machine.specs.Access.{translated_by, settle_judged, settle_looked, settle, access_to}
use Rattle.machine.specs.declared.Access.{Access}
use Rattle.machine.specs.declared.Prepared.{Prepared}
use Rattle.machine.specs.declared.Prepared.TheVariants as prepared
use Rattle.machine.specs.Stream.{answer_bytes}
use Rattle.machine.specs.Ledger.{Entry, Ledger, writes, page_bytes, bit, context_picked, tag_of, line, Written}
use Rattle.machine.specs.Ledger.{answers, Asked, used_address, translation_on, asked_side, faults, trap_with, tagged_trap}
use Rattle.machine.specs.Ledger.{first_fit, early_steps, misses, faults_of, hits}
use Rattle.machine.specs.declared.VirtualAddress.{VirtualAddress}
use Rattle.machine.specs.declared.Translation.{Translation}
use Rattle.machine.specs.declared.Answer.TheVariants as answer
use Rattle.machine.specs.declared.Trap.{Trap}
use Rattle.machine.specs.declared.Trap.TheVariants as trap
use Rattle.machine.proofs.Used.{SameSlots}
use Rattle.machine.proofs.Alike.{Alike}
use Rattle.machine.proofs.Sides.{code_bytes_lem}
use Rattle.machine.proofs.Questions.{address_good_lem, context_picked_lem, alike-registers}
use Rattle.machine.proofs.Bytes.{line-answer}
use Rattle.machine.proofs.State.{allowed-any, strand-sound, kind_side_lem}

ruleset conj = (and_left, and_right, eqb-true, ltb-true)

-- the unit's access of the ledger's operands
abbrev pub access_for : List ℕ → Asked → Access
access_for file q = record {
  strand = q.strand;
  kind = q.kind;
  side = kind_side q.kind;
  selector = q.selector;
  size = q.size;
  used = record { 0 = q.used };
}

-- a step of the unit and one of the ledger: the same 24 bytes, and alike after it
pub record StepAlike (n : Counts) (r : Stepped) (w : Written) : Type 0 where
  pub bytes : answer_bytes r.answer ≡ w.bytes
  pub alike : Alike n r.state w.ledger

-- ---- the small agreements
-- where a page of a sound word lies, and the offset in it
pub physical-alike : (word : ℕ) (used : VirtualAddress) → word_sound word ≡ true → (let address : ℕ = word / 2 ^ 13 % 2 ^ 43 * 2 ^ 13 in
    (physical_at word used).0 ≡ address - address % page_bytes word + used.0 % page_bytes word)
unfolding word_sound frame physical_by
physical-alike word used h =
    let l : listed (word % 2 ^ 4) ≡ true = search conj in
    rw (code_bytes_lem (word % 2 ^ 4) l) (omega (arith, split (word / 2 ^ 13 % 2 ^ 43 * 2 ^ 13) (page_shift (word % 2 ^ 4))))

-- the two texts of a tag
pub tag-alike : (address context : ℕ) → address - address % 8192 + context ≡ registers.tag_of address context
tag-alike address context = omega arith

-- ---- fault types
-- a bit that weighs w where a test holds
weighed : (b t : Bool) {y : ℕ} (w : ℕ) → y ≡ tick t → cond (b && t) w 0 ≡ cond b (w * y) 0
weighed true true w e = rw e (omega arith)
weighed true false w e = rw e (omega arith)
weighed false t w e = refl

cond-not : (b : Bool) (x y : ℕ) → cond (not b) x y ≡ cond b y x
cond-not true x y = refl
cond-not false x y = refl

weigh-small : (b : Bool) (w : ℕ) → cond b w 0 ≤ w
weigh-small true w = omega arith
weigh-small false w = omega arith

pub bit-set : (x : ℕ) → x < 2 → x ≡ tick (eqb x 1)
bit-set x h = by-test (eqb x 1) (λ e. rw e (eqb-true x 1 e)) (λ e. rw e (omega (arith, eqb-false x 1 e)))

bit-zero : (x : ℕ) → x < 2 → eqb x 0 ≡ not (eqb x 1)
bit-zero x h = by-test (eqb x 1) (λ e. rw (eqb-true x 1 e)) (λ e. rw (e, eq-eqb x 0 (omega (arith, eqb-false x 1 e))))

bit-clear : (x : ℕ) → x < 2 → 1 - x ≡ tick (eqb x 0)
bit-clear x h = by-test (eqb x 0) (λ e. rw e (omega (arith, eqb-true x 0 e))) (λ e. rw e (omega (arith, eqb-false x 0 e)))

-- the two sums
pub fault-alike : (mode kind word : ℕ) → fault_type mode kind word ≡ faults_of mode kind word
unfolding fault_type
fault-alike mode kind word =
    let set : (k : ℕ) → bit k word ≡ tick (eqb (bit k word) 1) = λ k. bit-set (bit k word) (omega arith) in
    rw (
      and_comm (eqb (bit 8 word) 1) (eqb mode 0),
      and_comm (eqb (bit 62 word) 1) (not (eqb kind 4)),
      weighed (eqb mode 0) (eqb (bit 8 word) 1) 1 (set 8),
      weighed (eqb kind 4) (eqb (bit 11 word) 1) 2 (set 11),
      weighed (eqb kind 3) (eqb (bit 10 word) 0) 4 (bit-clear (bit 10 word) (omega arith)),
      weighed (not (eqb kind 4)) (eqb (bit 62 word) 1) 0x10 (set 62),
      cond-not (eqb kind 4),
      one-mul,
    )

-- a fault type is a byte
pub fault-small : (mode kind word : ℕ) → fault_type mode kind word < 256
unfolding fault_type
fault-small mode kind word =
    omega (
      arith,
      weigh-small (eqb (bits 8 1 word) 1 && eqb mode 0) 1,
      weigh-small (eqb kind 4 && eqb (bits 11 1 word) 1) 2,
      weigh-small (eqb kind 3 && eqb (bits 10 1 word) 0) 4,
      weigh-small (eqb (bits 62 1 word) 1 && not (eqb kind 4)) 0x10,
    )

-- ---- traps
-- the number and fault type of an access exception
pub exception-number : (kind fault : ℕ) → trap_number (exception kind fault) ≡ cond (eqb kind 0) 0x08 0x30
exception-number kind fault = by-test (eqb kind 0) (λ e. rw e) (λ e. rw e)

pub exception-fault : (kind fault : ℕ) → trap_fault (exception kind fault) ≡ fault
exception-fault kind fault = by-test (eqb kind 0) (λ e. rw e) (λ e. rw e)

-- the number of a miss
miss_trap_lem : (on fetch : Bool) → (let t : Trap = cond on (cond fetch trap.InstructionMiss trap.DataMiss)
    (cond fetch trap.InstructionRealMiss trap.DataRealMiss) in
    (trap_number t ≡ cond fetch (cond on 0x64 0x3E) (cond on 0x68 0x3F)) × (trap_fault t ≡ 0))
miss_trap_lem true true = (refl, refl)
miss_trap_lem true false = (refl, refl)
miss_trap_lem false true = (refl, refl)
miss_trap_lem false false = (refl, refl)

-- a trap's number is a byte
pub number_small : (t : Trap) → trap_number t < 256
number_small (trap.InstructionAccessException fault) = omega arith
number_small (trap.DataAccessException fault) = omega arith
number_small trap.AddressNotAligned = omega arith
number_small trap.PrivilegedAction = omega arith
number_small trap.InstructionRealMiss = omega arith
number_small trap.DataRealMiss = omega arith
number_small trap.InstructionMiss = omega arith
number_small trap.DataMiss = omega arith
number_small trap.DataProtection = omega arith

-- the answer that gives a physical address
physical-told : (p : Translation) → p.attributes < 256 → p.code < 256
    → answer_bytes (answer.Physical p) ≡ line 1 p.attributes 0 p.code p.address.0 0
unfolding answer_bytes
physical-told p h c = line-answer 1 p.address.0 0 h (omega arith) c

-- ---- step 3
bypass-small : (b : Bool) → cond b 2 1 < 256
bypass-small true = omega arith
bypass-small false = omega arith

-- the ledger's attributes by its own test of bit 39
bypass-told : (a : VirtualAddress)
    → answer_bytes (answer.Physical (bypass_to a)) ≡ line 1 (cond (eqb (bit 39 a.0) 1) 2 1) 0 15 (a.0 % 0x100_0000_0000) 0
bypass-told a =
    let io : Bool = eqb (bit 39 a.0) 1 in
    rw (bit-zero (bit 39 a.0) (omega arith), cond-not io 1 2) (physical-told _ (bypass-small io) (omega arith))

-- the trap of an access that I/O space does not take
abbrev io-trap : ℕ → Prepared
io-trap fault = prepared.Stopped (trap.DataAccessException fault) (Some 0)

-- the unit's step is three of the ledger's
three-steps : (hyper io four three : Bool) (p rest : Prepared)
    → cond hyper (cond (not io) p (cond four (io-trap 0x02) (cond three (io-trap 0x04) p))) rest
    ≡ cond (hyper && (io && four)) (io-trap 0x02) (cond (hyper && (io && three)) (io-trap 0x04) (cond hyper p rest))
three-steps false io four three p rest = refl
three-steps true false four three p rest = refl
three-steps true true four three p rest = refl

step-3 : (hyper : Bool) (kind : ℕ) (a : VirtualAddress) (rest : Prepared) → (let io : Bool = eqb (bit 39 a.0) 1 in
    cond hyper (prepare_bypass kind a) rest
    ≡ cond (hyper && (io && eqb kind 4)) (io-trap 0x02)
    (cond (hyper && (io && eqb kind 3)) (io-trap 0x04)
    (cond hyper (prepared.Bypass (bypass_to a)) rest)))
step-3 hyper kind a rest =
    rw (bit-zero (bit 39 a.0) (omega arith)) (three-steps hyper (eqb (bit 39 a.0) 1) (eqb kind 4) (eqb kind 3) _ rest)

-- an access of data has side 1
data-side : (kind : ℕ) → eqb (kind_side kind) 1 ≡ not (eqb kind 0)
data-side kind = by-test (eqb kind 0) (λ e. rw e) (λ e. rw e)

-- ---- the address used
-- modes are 0 to 2
mode-below : (m : ℕ) → m < 3 → ltb m 2 ≡ not (eqb m 2)
mode-below m h = by-test (eqb m 2)
    (λ e. rw e (le-ltb m 2 (omega (arith, eqb-true m 2 e))))
    (λ e. rw e (lt-ltb m 2 (omega (arith, eqb-false m 2 e))))

-- the address used: `rw (← (used-alike ..))` makes the unit's access `access_for` the ledger's operands
pub used-alike : {n : Counts} {u : State} {l : Ledger} → Alike n u l → (strand : ℕ) (address : VirtualAddress) → strand < 4
    → (address_used u.registers strand address).0 ≡ used_address l strand address.0
used-alike {u} k strand address s =
    rw (
      k.registers strand 5 s (omega arith),
      k.registers strand 3 s (omega arith),
      mode-below (mode u.registers strand) (strand-sound u.registers strand k.allowed s).modes,
    )

-- ---- an access of a known strand and selector
-- the ledger's trap, by what it does to tag access: its `plain_trap` at fault type 0, its `trap_with`
abbrev pub trap_of : Ledger → Asked → ℕ → ℕ → Option ℕ → Written
trap_of l b number type None = answers (faults l b number type) (line 2 number type 0 b.used (tag_of l b.strand (asked_side b)))
trap_of l b number type (Some context) = trap_with l b context number type

-- an access before the lookup: both go on to it, or both have ended alike and left the slots
pub data Early (n : Counts) (u : State) (a : Access) (p : Prepared) (ss : List (Bool × Written)) : Type 0 where
  looks : p ≡ prepared.Lookup → any_of (λ q. q.0) ss ≡ false → Early n u a p ss
  ends : any_of (λ q. q.0) ss ≡ true → SameSlots (settle u a p).state u → ((last : Written) → StepAlike n (settle u a p) (first_fit ss last)) → Early n u a p ss

-- where no step ends the access, the last does
pub fit_none : (ss : List (Bool × Written)) (last : Written) → any_of (λ q. q.0) ss ≡ false → first_fit ss last ≡ last
unfolding any_of first_fit
fit_none [] last h = refl
fit_none (q ∷ ss) last h = rw (or_left q.0 _ h) (fit_none ss last (or_right q.0 _ h))

-- what holds of each step and of the last holds of the one taken
abbrev pub Each : (Written → Type 0) → List (Bool × Written) → Type 0
Each P [] = Unit {0}
Each P (q ∷ ss) = P q.1 × Each P ss

pub fit-ind : (P : Written → Type 0) (ss : List (Bool × Written)) (last : Written) → Each P ss → P last → P (first_fit ss last)
unfolding first_fit
fit-ind P [] last h p = p
fit-ind P (q ∷ ss) last h p = by-test q.0 (λ e. rw e h.0) (λ e. rw e (fit-ind P ss last h.1 p))

module _ {n : Counts} {u : State} {l : Ledger} (k : Alike n u l) (q : Asked) (s : q.strand < 4) (c : q.selector < 3) where
  abbrev a : Access
  a = access_for u.registers q

  pub translates-alike : translates u.registers a.strand (kind_side a.kind) ≡ translation_on l q
  translates-alike = rw (k.registers a.strand 4 s (omega arith))

  pub selected-alike : selected u.registers a.strand a.selector ≡ context_picked l a.strand a.selector
  selected-alike = sym (context_picked_lem k a.strand s a.selector c)

  -- what the lookup asks for is what the ledger's test takes
  pub key-alike : lookup_key u.registers a
      ≡ key_of (not (translation_on l q)) (l.registers a.strand 0) (context_picked l a.strand a.selector) a.used
  key-alike = rw (translates-alike, selected-alike, k.registers a.strand 0 s (omega arith))

  pub key-small : (l.registers a.strand 0 < 8) × (context_picked l a.strand a.selector < 8192)
  key-small =
      let f = strand-sound u.registers a.strand k.allowed s in
      rw (k.registers a.strand 0 s (omega arith), ← selected-alike) (f.partitions, f.contexts a.selector)

  -- ---- traps
  -- registers 20 to 25 take any value
  trap-written : {v : State} {m : Ledger} → Alike n v m → (r value : ℕ) → r ≤ 4
      → Alike n (with_registers v (with_register v.registers a.strand (20 + r + kind_side a.kind) value))
      (writes m a.strand (20 + r + kind_side a.kind) value)
  trap-written j r value h =
      let side = kind_side_lem a.kind in
      alike-registers j a.strand _ value s (omega arith) (allowed-any _ value (omega arith) (omega arith))

  -- a trap's answer names the tag access after it
  trap-told : (t : Trap) (tag : Option ℕ) (m : Ledger) (value : ℕ) → trap_fault t < 256 → Alike n (trap_to u a t tag).state m
      → m.registers a.strand (20 + kind_side a.kind) ≡ value
      → answer_bytes (trap_to u a t tag).answer ≡ line 2 (trap_number t) (trap_fault t) 0 a.used.0 value
  unfolding answer_bytes
  trap-told t tag m value h j e =
      let side = kind_side_lem a.kind in
      rw (← e, j.registers a.strand (20 + kind_side a.kind) s (omega arith)) (line-answer 2 a.used.0 _ (number_small t) h (omega arith))

  pub trap-alike : (t : Trap) (tag : Option ℕ) → trap_fault t < 256 → StepAlike n (trap_to u a t tag) (trap_of l q (trap_number t) (trap_fault t) tag)
  unfolding trap_registers trap_with
  trap-alike t tag h = by-tag tag
    where
      side : ℕ
      side = kind_side a.kind

      faulted-alike : Alike n (trap_to u a t None).state (faults l q (trap_number t) (trap_fault t))
      faulted-alike = trap-written (trap-written k 2 _ (omega arith)) 4 _ (omega arith)

      -- register 20 is neither 22 nor 24
      other : (r : ℕ) → 20 < r → (eqb a.strand a.strand && eqb (20 + side) (r + side)) ≡ false
      other r g = rw (ne_eqb (20 + side) (r + side) (λ e. omega arith)) (and-false (eqb a.strand a.strand))

      by-tag : (tag : Option ℕ) → StepAlike n (trap_to u a t tag) (trap_of l q (trap_number t) (trap_fault t) tag)
      by-tag None = record {
        bytes = trap-told t None _ _ h faulted-alike (rw (other 24 (omega arith), other 22 (omega arith)));
        alike = faulted-alike;
      }
      by-tag (Some context) =
          let j : Alike n (trap_to u a t (Some context)).state _ = trap-written faulted-alike 0 (registers.tag_of a.used.0 context)
          (omega arith) in
          rw (tag-alike a.used.0 context) (record {
            bytes = trap-told t (Some context) _ _ h j (rw (eq-eqb a.strand a.strand refl, eq-eqb (20 + side) (20 + side) refl));
            alike = j;
          })

  -- with tag access written by the selected context, or 0 where translation is off
  pub tagged-alike : (t : Trap) {number type : ℕ} → trap_number t ≡ number → trap_fault t ≡ type → type < 256
      → StepAlike n (trap_to u a t (trap_tag u.registers a)) (tagged_trap l q number type)
  tagged-alike t e f h = rw (← e, ← f, ← translates-alike, ← selected-alike) (trap-alike t (trap_tag u.registers a) (rw f h))

  -- ---- before the lookup
  -- one step more in front
  early-next : (b : Bool) (p : Prepared) {p' : Prepared} {b' : Bool} {w : Written} {ss : List (Bool × Written)} → b' ≡ b
      → SameSlots (settle u a p).state u → StepAlike n (settle u a p) w → Early n u a p' ss → Early n u a (cond b p p') ((b', w) ∷ ss)
  unfolding any_of first_fit
  early-next true p e z j r = rw e (ends refl z (λ last. j))
  early-next false p e z j (looks q none) = rw e (looks q none)
  early-next false p e z j (ends any y f) = rw e (ends any y f)

  pub prepare-alike : Early n u a (prepare u.registers a) (early_steps l q)
  unfolding prepare early_steps any_of
  prepare-alike =
      let m : l.registers a.strand 3 ≡ mode u.registers a.strand = k.registers a.strand 3 s (omega arith) in
      let nucleus : Bool = eqb (mode u.registers a.strand) 0 && (not (eqb a.kind 0) && eqb a.selector 2) in
      let data-nucleus : (eqb (l.registers a.strand 3) 0 && (eqb (kind_side a.kind) 1 && eqb a.selector 2)) ≡ nucleus =
      rw (m, data-side a.kind) in
      let hyper : Bool = eqb (mode u.registers a.strand) 2 in
      let io : Bool = eqb (bit 39 q.used) 1 in
      let stops : (kind : ℕ) → (eqb (l.registers a.strand 3) 2 && (io && eqb a.kind kind)) ≡ (hyper && (io && eqb a.kind kind)) = λ kind. rw m in
      rw (step-3 hyper a.kind a.used)
      (early-next _ (prepared.Stopped trap.AddressNotAligned None) refl (refl, refl) (trap-alike trap.AddressNotAligned None (omega arith))
      (early-next nucleus (prepared.Stopped trap.PrivilegedAction None) data-nucleus (refl, refl)
      (trap-alike trap.PrivilegedAction None (omega arith))
      (early-next _ (io-trap 0x02) (stops 4) (refl, refl) (trap-alike (trap.DataAccessException 0x02) (Some 0) (omega arith))
      (early-next _ (io-trap 0x04) (stops 3) (refl, refl) (trap-alike (trap.DataAccessException 0x04) (Some 0) (omega arith))
      (early-next _ (prepared.Bypass (bypass_to a.used)) (ap (λ x. eqb x 2) m) (refl, refl) (record { bytes = bypass-told a.used; alike = k })
      (early-next _ (prepared.Stopped (exception a.kind 0x20) (trap_tag u.registers a)) (ap not (address_good_lem a.used.0)) (refl, refl)
      (tagged-alike (exception a.kind 0x20) (exception-number a.kind 0x20) (exception-fault a.kind 0x20) (omega arith))
      (looks refl refl)))))))

  -- an access is as its lookup is
  pub access-alike : (last : Written) → StepAlike n (settle u a prepared.Lookup) last
      → StepAlike n (access_to u a) (first_fit (early_steps l q) last)
  access-alike last j = go prepare-alike
    where
      go : Early n u a (prepare u.registers a) (early_steps l q) → StepAlike n (access_to u a) (first_fit (early_steps l q) last)
      go (looks p none) = rw (p, fit_none (early_steps l q) last none) j
      go (ends any z f) = f last

  -- ---- after it
  pub miss-alike : StepAlike n (settle_looked u a miss) (misses l q)
  unfolding misses
  miss-alike =
      let m = miss_trap_lem (translates u.registers a.strand (kind_side a.kind)) (eqb a.kind 0) in
      tagged-alike (miss_trap u.registers a) (rw (← translates-alike) m.0) m.1 (omega arith)

  -- what the word of a found entry says
  pub hit-alike : (e : Entry) {word : ℕ} → e.word ≡ word → word_sound word ≡ true
      → StepAlike n (settle_judged u a (translated_by word (reach_of word q.used)) (judge u.registers a word)) (hits l q e)
  unfolding judge hits first_fit
  hit-alike e {word} w h =
      let fault : ℕ = fault_type (mode u.registers a.strand) a.kind word in
      let refused : Bool = (eqb a.kind 2 || eqb a.kind 3) && eqb (bits 6 1 word) 0 in
      rw (
        w,
        k.registers a.strand 3 s (omega arith),
        ← (fault-alike (mode u.registers a.strand) a.kind word),
        and_comm (eqb (bit 6 word) 0) (eqb a.kind 2 || eqb a.kind 3),
      )
      (by-test (not (eqb fault 0))
      (λ t. rw t (tagged-alike (exception a.kind fault) (exception-number a.kind fault) (exception-fault a.kind fault) (fault-small _ a.kind word)))
      (λ t. by-test refused
      (λ f. rw (t, f) (tagged-alike trap.DataProtection refl refl (omega arith)))
      (λ f. rw (t, f, ← (physical-alike word a.used h)) (record { bytes = physical-told _ (omega arith) (omega arith); alike = k }))))

-- ---- a miss is no hit
-- the trap numbers of a miss lie from 0x3E to 0x68, and no hit's first field does
abbrev is_miss : List ℕ → Bool
is_miss bytes = leb 0x3E (get_or bytes 1 0) && leb (get_or bytes 1 0) 0x68

miss_code_lem : (l : Ledger) (b : Asked) → is_miss (misses l b).bytes ≡ true
unfolding misses trap_with line
miss_code_lem l b = numbers (translation_on l b) (eqb b.kind 0)
  where
    numbers : (on fetch : Bool) → (let x : ℕ = cond fetch (cond on 0x64 0x3E) (cond on 0x68 0x3F) in leb 0x3E x && leb x 0x68) ≡ true
    numbers true true = refl
    numbers true false = refl
    numbers false true = refl
    numbers false false = refl

hit-code : (l : Ledger) (b : Asked) (e : Entry) → is_miss (hits l b e).bytes ≡ false
unfolding hits trap_with line
hit-code l b e =
    fit-ind (λ w. is_miss w.bytes ≡ false) _ _
    (by-test (eqb b.kind 0) (λ t. rw t) (λ t. rw t), (refl, tt))
    (rw (lt-leb 0x3E (bit 10 e.word + 2 * bit 11 e.word + 4 * bit 12 e.word) (omega arith)))

pub miss-not-hit : (l : Ledger) (b : Asked) (e : Entry) → (misses l b).bytes ≡ (hits l b e).bytes → ⊥
miss-not-hit l b e h = clash (miss_code_lem l b) (ap is_miss h ∙ hit-code l b e)
