-- Laws of entry words: packing and unpacking undo each other, and a sound word's page lies below 2^40. Assumes nothing.
use Prim.Native.Nat.{ℕ, ◌+◌, ◌*◌, ◌/◌, ◌%◌, ◌^◌, ◌<◌}
use mathlib.Core.Path.{◌≡◌, ◌∙◌}
use mathlib.Core.Bool.{true}
use native.Mathlib.Omega.{arith}
use native.Mathlib.Nat.{mod-mod, mod-lt}
use lib.Pow.{pow_pos, split, high, mod-pow-add}
use borrow.Author.Tests.{eqb-true, ltb-true}
use Rattle.laws.proofs.Bools.{and_left, and_right}
use Rattle.machine.specs.Pages.{page_shift}
use Rattle.machine.specs.Words.{bits, unpacked, packed, fields, word_sound, word_insertable, frame, physical_by, physical_at}
use Rattle.machine.specs.declared.VirtualAddress.{VirtualAddress}
use Rattle.machine.specs.declared.Tte.{Tte}
use Rattle.machine.proofs.Pages.{shift_small, coarser}

ruleset conjuncts = (and_left, and_right, eqb-true, ltb-true)

-- ---- round trips
-- the n bits from k up join those above them
join : (w k n : ℕ) → w / 2 ^ (n + k) * 2 ^ (n + k) + bits k n w * 2 ^ k ≡ w / 2 ^ k * 2 ^ k
join w k n = omega (arith, split w k, split w (n + k), mod-pow-add w n k)

pub pack-unpack : (w : ℕ) → w < 2 ^ 64 → packed (unpacked w) ≡ w
unfolding packed unpacked
pack-unpack w h =
    let top : bits 63 1 w * 2 ^ 63 ≡ w / 2 ^ 63 * 2 ^ 63 = omega arith in
    let j = join w in
    simp mod-mod (rw (top, j 62 1, j 56 6, j 13 43, j 12 1, j 11 1, j 10 1, j 9 1, j 8 1, j 7 1, j 6 1, j 4 2) (omega arith))

pub unpack-pack : (t : Tte) → fields t ≡ true → unpacked (packed t) ≡ t
unfolding unpacked packed fields
unpack-pack t h =
    let w : ℕ = packed t in
    let fit : (t.v < 2) × (t.nfo < 2) × (t.soft2 < 2 ^ 6) × (t.address < 2 ^ 43) × (t.ie < 2) × (t.e < 2) × (t.cp < 2) × (t.cv < 2)
    × (t.p < 2) × (t.ep < 2) × (t.w < 2) × (t.soft < 2 ^ 2) × (t.size < 2 ^ 4) = search conjuncts depth 13 in
    let e : (bits 63 1 w ≡ t.v) × (bits 62 1 w ≡ t.nfo) × (bits 56 6 w ≡ t.soft2) × (bits 13 43 w ≡ t.address) × (bits 12 1 w ≡ t.ie)
    × (bits 11 1 w ≡ t.e) × (bits 10 1 w ≡ t.cp) × (bits 9 1 w ≡ t.cv) × (bits 8 1 w ≡ t.p) × (bits 7 1 w ≡ t.ep)
    × (bits 6 1 w ≡ t.w) × (bits 4 2 w ≡ t.soft) × (w % 2 ^ 4 ≡ t.size) = search arith in
    rw (e.0, e.1, e.2, e.3, e.4, e.5, e.6, e.7, e.8, e.9, e.10, e.11, e.12)

-- ---- sound words
pub insertable-sound : (w : ℕ) → word_insertable w ≡ true → word_sound w ≡ true
unfolding word_insertable
insertable-sound w h = h

-- no address in the page leaves the word's block of 2^40, whatever the word
physical-block : (w : ℕ) (address : VirtualAddress) → (physical_at w address).0 / 2 ^ 40 ≡ bits 40 16 w
unfolding frame physical_by
physical-block w address =
    let k : ℕ = page_shift (w % 2 ^ 4) in
    let a : ℕ = bits 13 43 w * 2 ^ 13 in
    coarser _ a k 40 (omega (arith, shift_small (w % 2 ^ 4))) (high (a / 2 ^ k) k (mod-lt address.0 (pow_pos k))) ∙ omega arith

-- physical addresses are below 2^40
pub physical-below : (w : ℕ) → word_sound w ≡ true → (address : VirtualAddress) → (physical_at w address).0 < 2 ^ 40
unfolding word_sound
physical-below w h address =
    let zero-above : bits 40 16 w ≡ 0 = search conjuncts in
    omega (arith, physical-block w address)
