-- Every slot that a removal takes passes its sieve. Assumes nothing.
use Prim.Native.Nat.{ℕ, ◌+◌, ◌*◌, ◌/◌, ◌%◌, ◌-◌, ◌^◌, ◌≤◌, ◌<◌, max}
use mathlib.Core.Path.{◌≡◌, refl, sym}
use mathlib.Core.Bool.{true, false, not}
use mathlib.Core.List.{List}
use native.Mathlib.Omega.{arith}
use native.Mathlib.Nat.{le-max_right}
use lib.Dec.{eqb, leb}
use lib.Bits.{bit_xor, xor_self, xor_zero_l}
use lib.ListN.{get_or, length}
use borrow.Author.Tests.{eqb-true, leb-false, le-leb}
use Rattle.laws.proofs.Bools.{by-test, clash, and_left, and_right}
use Rattle.machine.specs.declared.Slot.{Slot}
use Rattle.machine.specs.declared.Key.{Key}
use Rattle.machine.specs.declared.Removal.{Removal}
use Rattle.machine.specs.declared.Removal.TheVariants.{Page, Context, Unlocked, Everything, Overlapping}
use Rattle.machine.specs.Pages.{page_shift, page_size, page_start}
use Rattle.machine.specs.Slots.{is_live, is_locked, partition_of, size_code, slot_of, owner_word, key_address, holds, is_compared, answers_to}
use Rattle.machine.specs.Insertion.{removes}
use Rattle.machine.proofs.Pages.{start-block}
use Rattle.machine.proofs.Slots.{slot_at, on_slot_lem}
use Rattle.tlb.specs.Tables.{spans_of}
use Rattle.tlb.proofs.Asked.{near, span-at, over-far}
use Rattle.tlb_update.specs.declared.Sieve.{Sieve}
use Rattle.tlb_update.specs.declared.Sieve.TheVariants.{Pages, Owners}
use Rattle.tlb_update.specs.Sieves.{passes, Sifts, NonePass}

-- an owner is near itself
own : (x : Slot) (owner : ℕ) → eqb x.owner owner ≡ true → leb (bit_xor owner x.owner) 0 ≡ true
own x owner e = rw (eqb-true x.owner owner e, xor_self owner) refl

-- a page that holds an address starts within its size of it
pub page-sifts : (key : Key) → Sifts (Page key) (Pages (key_address key) 1)
unfolding removes answers_to page_shift passes
page-sifts key x _ _ h =
    let a : ℕ = key_address key in
    let e : page_start (size_code x) a ≡ x.page = eqb-true _ _ (and_right (is_compared key x) (holds x a) h) in
    let s : get_or (spans_of (page_size 2)) (size_code x) 0 ≡ max (page_size 2) (page_size (size_code x)) = span-at 2 (size_code x) (omega arith) in
    let n : bit_xor a x.page < page_size (size_code x) = near a x.page (page_shift (size_code x)) (sym (start-block (size_code x) x.page a e)) in
    le-leb (bit_xor a x.page) (get_or (spans_of (page_size 2)) (size_code x) 0)
    (rw s (omega (arith, n, le-max_right (page_size 2) (page_size (size_code x)))))

pub context-sifts : (partition context : ℕ) → Sifts (Context partition context) (Owners (owner_word partition false context) 0)
unfolding removes passes
context-sifts partition context x _ _ h = own x (owner_word partition false context) (and_right (is_live x) _ h)

pub unlocked-sifts : (partition : ℕ) → Sifts (Unlocked partition) (Owners (partition * 2 ^ 14 % 2 ^ 64) 16383)
unfolding removes passes
unlocked-sifts partition x o _ h =
    let e : x.owner / 2 ^ 14 ≡ partition = eqb-true _ _ (and_left (eqb (partition_of x) partition) (not (is_locked x)) (and_right (is_live x) _ h)) in
    let owner : ℕ = partition * 2 ^ 14 % 2 ^ 64 in
    le-leb (bit_xor owner x.owner) 16383 (omega (arith, near owner x.owner 14 (omega (arith, e, o))))

pub everything-sifts : Sifts Everything (Owners 0 (2 ^ 64 - 1))
unfolding passes
everything-sifts x o _ h = rw (xor_zero_l x.owner) (le-leb x.owner (2 ^ 64 - 1) (omega arith))

-- starts that lie too far apart are of no common page
pub overlapping-sifts : (new : Slot) → Sifts (Overlapping new) (Pages new.page (page_size (size_code new)))
unfolding removes passes
overlapping-sifts new x _ _ h =
    let d : ℕ = bit_xor new.page x.page in
    let s : ℕ = get_or (spans_of (page_size (size_code new))) (size_code x) 0 in
    by-test (leb d s) (λ t. t) (λ n. clash h (over-far new x (omega (arith, leb-false d s n))))

-- a removal takes none of the slots that do not pass its sieve
pub none-taken : (which : Removal) (sieve : Sieve) (l : List ℕ) (from r : ℕ) → ((k : ℕ) → get_or l k 0 < 2 ^ 64) → Sifts which sieve → NonePass sieve l from r
    → (j : ℕ) → from ≤ j → j < r → removes which (slot_of l j) ≡ false
none-taken which sieve l from r b s w j a h =
    let x : Slot = slot_at l (j * 4) in
    let inside : j * 4 + 4 ≤ length l = omega (arith, h, w.1) in
    on_slot_lem (removes which) l j inside
    (by-test (removes which x)
    (λ t. clash (on_slot_lem (passes sieve) l j inside (s x (b (j * 4)) (b (j * 4 + 1)) t)) (w.2 j a h))
    (λ t. t))
