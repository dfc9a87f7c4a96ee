-- Laws of rounding to a page. Assumes nothing.
use Prim.Native.Nat.{ℕ, ◌*◌, ◌-◌, ◌/◌, ◌^◌, ◌≤◌}
use mathlib.Core.Path.{◌≡◌, ap, sym, ◌∙◌}
use mathlib.Core.Bool.{Bool, true, false, not, cond}
use native.Mathlib.Omega.{arith}
use native.Mathlib.Nat.{add-sub_of_le}
use lib.Dec.{eqb, ltb, leb}
use lib.Pow.{shl-shr, shr-shr}
use borrow.Author.Tests.{lt-ltb, le-leb, lt-leb, ltb-true, ltb-false}
use Rattle.laws.proofs.Bools.{by-test, both_ways}
use Rattle.machine.specs.Pages.{in_range, listed, page_shift, page_size, page_start}

-- ---- page shifts
by_cond : (P : ℕ → Type 0) (b : Bool) {x y : ℕ} → P x → P y → P (cond b x y)
by_cond P true p q = p
by_cond P false p q = q

pub shift_small : (code : ℕ) → page_shift code ≤ 28
unfolding page_shift
shift_small code =
    let P : ℕ → Type 0 = λ n. n ≤ 28 in
    by_cond P (eqb code 0) (omega arith) (by_cond P (eqb code 1) (omega arith)
    (by_cond P (eqb code 3) (omega arith) (by_cond P (eqb code 5) (omega arith) (omega arith))))

-- a listed code's page is a whole number of the smallest pages
pub shift-large : (code : ℕ) → listed code ≡ true → 13 ≤ page_shift code
unfolding page_shift listed
shift-large code h =
    by-test (eqb code 0) (λ e. rw e (omega arith)) (λ e0.
    by-test (eqb code 1) (λ e. rw (e0, e) (omega arith)) (λ e1.
    by-test (eqb code 3) (λ e. rw (e0, e1, e) (omega arith)) (λ e3.
    let e5 : eqb code 5 ≡ true = rw (e0, e1, e3) at h in
    rw (e0, e1, e3, e5) (omega arith))))

-- ---- rounding, over any shift
-- down to a block, and then to one at least as large
pub round-round : (a s t : ℕ) → s ≤ t → a / 2 ^ s * 2 ^ s / 2 ^ t ≡ a / 2 ^ t
round-round a s t h =
    rw (← (add-sub_of_le h))
    (sym (shr-shr (a / 2 ^ s * 2 ^ s) s (t - s)) ∙ ap (λ x. x / 2 ^ (t - s)) (shl-shr (a / 2 ^ s) s) ∙ shr-shr a s (t - s))

-- numbers in one block are in one of any larger
pub coarser : (a b s t : ℕ) → s ≤ t → a / 2 ^ s ≡ b / 2 ^ s → a / 2 ^ t ≡ b / 2 ^ t
coarser a b s t h e =
    rw (← (add-sub_of_le h)) (sym (shr-shr a s (t - s)) ∙ ap (λ x. x / 2 ^ (t - s)) e ∙ shr-shr b s (t - s))

-- what is rounded is a page start
pub start-start : (code a : ℕ) → page_start code (page_start code a) ≡ page_start code a
start-start code a = ap (λ n. n * page_size code) (shl-shr (a / page_size code) (page_shift code))

-- an address that a page start holds lies in its page
pub start-block : (code page a : ℕ) → page_start code a ≡ page → page / page_size code ≡ a / page_size code
start-block code page a h = ap (λ n. n / page_size code) (sym h) ∙ shl-shr (a / page_size code) (page_shift code)

-- ---- ranges
-- a multiple of the largest page has an address and its page's start on one side
below-start : (code a q : ℕ) → ltb (page_start code a) (q * 2 ^ 28) ≡ ltb a (q * 2 ^ 28)
below-start code a q =
    let r : ℕ = page_start code a in
    let e : r / 2 ^ 28 ≡ a / 2 ^ 28 = round-round a (page_shift code) 28 (shift_small code) in
    both_ways (ltb r (q * 2 ^ 28)) (ltb a (q * 2 ^ 28))
    (λ h. lt-ltb a (q * 2 ^ 28) (omega (arith, ltb-true r (q * 2 ^ 28) h)))
    (λ h. lt-ltb r (q * 2 ^ 28) (omega (arith, ltb-true a (q * 2 ^ 28) h)))

leb-ltb : (a b : ℕ) → leb a b ≡ not (ltb b a)
leb-ltb a b = by-test (ltb b a) (λ e. rw e (lt-leb a b (ltb-true b a e))) (λ e. rw e (le-leb a b (ltb-false b a e)))

-- all bounds of the range are such multiples, so rounding keeps an address in range or out of it
pub range-start : (code a : ℕ) → in_range (page_start code a) ≡ in_range a
unfolding in_range
range-start code a =
    rw (
      leb-ltb (2 ^ 64 - 2 ^ 47) (page_start code a),
      leb-ltb (2 ^ 64 - 2 ^ 47) a,
      below-start code a (2 ^ 19),
      below-start code a (2 ^ 36 - 2 ^ 19),
      below-start code a (2 ^ 36),
    )
