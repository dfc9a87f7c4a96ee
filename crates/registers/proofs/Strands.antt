-- The cells of a file, strand by strand. Assumes nothing.
use Prim.Native.Nat.{ℕ, zero, suc, ◌+◌, ◌*◌, ◌%◌, ◌≤◌}
use mathlib.Core.Bool.{Bool, true, false, ◌&&◌, and-true, and-false}
use mathlib.Core.List.{List}
use mathlib.Core.Path.{◌≡◌, refl, sym, ap}
use native.Mathlib.Omega.{arith}
use lib.ListN.{length, get_or, take, drop, length-drop}
use lib.Seq.{get_or-take, get_or-drop}
use Rattle.std.specs.List.{list_all}
use Rattle.std.specs.Simd.{first_chunks}
use Rattle.laws.specs.Tests.{all_below}
use Rattle.laws.proofs.Belows.{below-same}
use Rattle.machine.specs.Registers.{allowed}
use Rattle.registers.proofs.Ranges.{cell_fits}

and_swap : (a b c : Bool) → (a && (b && c)) ≡ (b && (a && c))
and_swap true b c = refl
and_swap false b c = sym (and-false b)

-- a test of every number below a sum: of those from the first part on, and of those below it
below-parts : (test : ℕ → Bool) (a n : ℕ) → all_below test (a + n) ≡ (all_below test a && all_below (λ i. test (a + i)) n)
unfolding all_below
below-parts test a zero = let at : a + 0 ≡ a = omega arith in rw at (sym (and-true (all_below test a)))
below-parts test a (suc n) =
    let at : a + suc n ≡ suc (a + n) = omega arith in
    rw (at, below-parts test a n) (and_swap (test (a + n)) (all_below test a) _)

-- whether cell i of a file holds what it may
abbrev pub file_fits : List ℕ → ℕ → Bool
file_fits file i = allowed (i % 32) (get_or file i 0)

pub strands-fit : (strands : ℕ) (file : List ℕ) → 32 * strands ≤ length file
    → list_all (λ (cells : List ℕ). all_below (cell_fits cells) 32) (first_chunks 32 strands file) ≡ all_below (file_fits file) (32 * strands)
unfolding all_below
strands-fit zero file l = refl
strands-fit (suc n) file l =
    let more : 32 * suc n ≡ 32 + 32 * n = omega arith in
    let one : all_below (cell_fits (take 32 file)) 32 ≡ all_below (file_fits file) 32 = below-same (cell_fits (take 32 file)) (file_fits file) 32 (λ i h.
    let number : i % 32 ≡ i = omega arith in
    rw number (ap (allowed i) (get_or-take 32 file i 0 h))) in
    let rest : all_below (file_fits (drop 32 file)) (32 * n) ≡ all_below (λ i. file_fits file (32 + i)) (32 * n) = below-same (file_fits (drop 32 file)) (λ i. file_fits file (32 + i)) (32 * n) (λ i h.
    let number : (32 + i) % 32 ≡ i % 32 = omega arith in
    rw number (ap (allowed (i % 32)) (get_or-drop 32 file i 0))) in
    rw more (rw (one, strands-fit n (drop 32 file) (omega (arith, length-drop 32 file)), rest) (sym (below-parts (file_fits file) 32 (32 * n))))
