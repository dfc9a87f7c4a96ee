-- Sizes of a TSB: 512 * 2^N entries of 16 bytes, so a pointer into it fits a word.
-- Assumes nothing.
use Prim.Native.Nat.{ℕ, ◌+◌, ◌*◌, ◌-◌, ◌/◌, ◌%◌, ◌^◌, ◌<◌, ◌≤◌}
use mathlib.Core.Path.{◌≡◌, sym, ap, ◌∙◌}
use native.Mathlib.Nat.{suc-mul, mul-le-mul_right}
use native.Mathlib.Omega.{arith}
use lib.Dec.{lit<}
use lib.Pow.{pow-add, shl_exact, shr_lt}
use Rattle.machine.specs.Tsb.{tsb_offset}
use Rattle.machine.proofs.Misses.{entry-within}

-- how many entries
pub tsb_entries_lem : (n : ℕ) → n < 16 → (512 * 2 ^ n) % 2 ^ 64 ≡ 2 ^ (9 + n)
tsb_entries_lem n h = shl_exact 10 n 64 (lit< tt) (omega arith) ∙ sym (pow-add 2 9 n)

-- an offset lies below the TSB's length
pub offset-below : (n code address : ℕ) → tsb_offset n code address < 2 ^ (13 + n)
offset-below n code address =
    let k : 13 + n ≡ 4 + (9 + n) = omega arith in
    let e : 2 ^ (13 + n) ≡ 16 * 2 ^ (9 + n) = ap (λ (i : ℕ). 2 ^ i) k ∙ pow-add 2 4 (9 + n) in
    omega (arith, entry-within n code address)

-- a multiple of 2^s and what is below 2^s
pub aligned_sum : (base s o : ℕ) → s ≤ 64 → base < 2 ^ 64 → o < 2 ^ s → base / 2 ^ s * 2 ^ s + o < 2 ^ 64
aligned_sum base s o l b h =
    let e : (64 - s) + s ≡ 64 = omega arith in
    let t : 2 ^ (64 - s) * 2 ^ s ≡ 2 ^ 64 = sym (pow-add 2 (64 - s) s) ∙ ap (λ (i : ℕ). 2 ^ i) e in
    let q : base / 2 ^ s < 2 ^ (64 - s) = shr_lt (64 - s) s (rw e b) in
    omega (arith, mul-le-mul_right (2 ^ s) q, suc-mul (base / 2 ^ s) (2 ^ s))
