-- The command at a position: read at the front of the rest, told by its width, and which bytes begin which. Assumes nothing.
use Rattle.std.proofs.Common.{Ok, Err}
use Prim.Native.Nat.{ℕ, ◌+◌, ◌*◌, ◌-◌, ◌^◌, ◌≤◌, ◌<◌}
use mathlib.Core.Bool.{Bool, true, false, cond}
use mathlib.Core.Path.{◌≡◌, refl, sym, ◌∙◌}
use native.Mathlib.Nat.{add-zero, add_assoc, sub-zero}
use native.Mathlib.Omega.{arith}
use borrow.Author.Tests.{ne_eqb}
use lib.Dec.{T, eqb, leb, ltb, lit≤}
use lib.ListN.{length, take, drop, length-drop, drop_of_length-le}
use lib.Seq.{get_or-drop}
use Rattle.std.specs.Int.{w64, from_be_bytes}
use Rattle.std.proofs.lemmas.List.{get_or-take}
use Rattle.machine.specs.Stream.{Bytes, byte, eight, width_of, command_at, decode_at}
use Rattle.wire.specs.Wire.{Whole}
use Rattle.machine.specs.declared.Stop.TheVariants.{NoCommand, Truncated}

-- a command is read where it stands as at the front of the rest
pub decode-rest : (s : Bytes) (at : ℕ) → decode_at (drop at s) 0 ≡ decode_at s at
unfolding decode_at command_at eight
decode-rest s at = simp (get_or-drop, length-drop, add-zero, add_assoc, sub-zero)

-- past the end there is none
pub decode-past : (s : Bytes) (at : ℕ) → length s ≤ at → decode_at s at ≡ Err NoCommand
unfolding decode_at width_of
decode-past s at h = sym (decode-rest s at) ∙ rw (drop_of_length-le s)

-- the eight bytes at a position, big-endian
pub part-eight : (s ys : Bytes) (at : ℕ) → ys ≡ take (at + 8 - at) (drop at s) → from_be_bytes w64 ys ≡ eight s at
unfolding eight
part-eight s ys at e =
    let sum : from_be_bytes w64 ys
    ≡ byte ys 0 * 2 ^ 56 + byte ys 1 * 2 ^ 48 + byte ys 2 * 2 ^ 40 + byte ys 3 * 2 ^ 32 + byte ys 4 * 2 ^ 24 + byte ys 5 * 2 ^ 16 + byte ys 6 * 2 ^ 8 + byte ys 7 =
    refl in
    let there : (i : ℕ) → i < 8 → byte ys i ≡ byte s (at + i) = λ i h. rw e (get_or-take (at + 8 - at) _ i 0 (omega arith) ∙ get_or-drop at s i 0) in
    sum ∙ simp add_assoc (omega (arith, rw add-zero at (there 0), there 1, there 2, there 3, there 4, there 5, there 6, there 7))

-- a byte that is known tells how far the bytes reach
pub reach : {s : Bytes} {k : ℕ} → byte s 0 ≡ k → Whole s → width_of k ≤ length s
reach e w = rw e at w.there

-- what no arm of a match took: a byte that is neither of these begins a short command ..
pub short-width : (b : ℕ) → (b ≡ 1 → ⊥) → (b ≡ 2 → ⊥) → (b ≡ 3 → ⊥) → (b ≡ 7 → ⊥) → width_of b ≤ 4
unfolding width_of
short-width b n1 n2 n3 n7 =
    simp (ne_eqb b 1 n1, ne_eqb b 2 n2, ne_eqb b 3 n3, ne_eqb b 7 n7)
    (arm (eqb b 4) 4 tt (arm (eqb b 5) 3 tt (arm (eqb b 6) 2 tt (arm (eqb b 8) 3 tt (arm (eqb b 9) 3 tt (arm (eqb b 10) 3 tt (omega arith)))))))
  where
    arm : (t : Bool) (width : ℕ) {other : ℕ} → T (leb width 4) → other ≤ 4 → cond t width other ≤ 4
    arm true width h o = lit≤ h
    arm false width h o = o

-- .. and of the short ones there are no others
pub no_other : (b : ℕ) → (b ≡ 4 → ⊥) → (b ≡ 5 → ⊥) → (b ≡ 8 → ⊥) → (b ≡ 9 → ⊥) → (b ≡ 10 → ⊥) → (b ≡ 6 → ⊥) → 2 ≤ width_of b → width_of b ≤ 4 → ⊥
unfolding width_of
no_other b n4 n5 n8 n9 n10 n6 =
    simp (ne_eqb b 4 n4, ne_eqb b 5 n5, ne_eqb b 6 n6, ne_eqb b 8 n8, ne_eqb b 9 n9, ne_eqb b 10 n10)
    (arm (eqb b 1) 11 tt (arm (eqb b 2) 12 tt (arm (eqb b 3) 13 tt (arm (eqb b 7) 13 tt (λ l h. omega arith)))))
  where
    arm : (t : Bool) (width : ℕ) {other : ℕ} → T (leb 5 width) → (2 ≤ other → other ≤ 4 → ⊥)
        → 2 ≤ cond t width other → cond t width other ≤ 4 → ⊥
    arm true width l o m h = let long : 5 ≤ width = lit≤ l in omega arith
    arm false width l o m h = o m h

-- by the width that the byte at a position tells
pub decode-told : (s : Bytes) (at width : ℕ) → width ≡ width_of (byte s at)
    → decode_at s at ≡ cond (eqb width 0) (Err NoCommand) (cond (ltb (length s - at) width) (Err Truncated) (Ok (command_at s at, width)))
unfolding decode_at
decode-told s at width e = rw e
