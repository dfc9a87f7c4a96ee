-- The decoder reads the wire format. Assumes nothing.
use Rattle.std.proofs.Common.{Ok, Err}
use Prim.Native.Nat.{ℕ, suc, ◌-◌, ◌^◌, ◌≤◌}
use mathlib.Core.Path.{◌≡◌, refl, ap, sym, ◌∙◌}
use mathlib.Core.Bool.{true, false, ◌||◌}
use mathlib.Core.List.{List, [], ◌∷◌, ◌++◌}
use native.Mathlib.Omega.{arith}
use native.Mathlib.Nat.{suc-add, suc-sub-suc}
use lib.Dec.{eqb, ltb}
use lib.ListN.{length, length-append}
use borrow.Author.Tests.{eqb-true, ltb-true, lt-ltb, le-ltb}
use Rattle.laws.proofs.Bools.{by-test, clash}
use Rattle.machine.specs.Stream.{byte, eight, width_of, command_at, decode_at}
use Rattle.machine.specs.Ledger.{big_endian, value_from}
use Rattle.machine.specs.Format.{encoded, fits, Decodes}
use Rattle.machine.specs.declared.Command.{Command}
use Rattle.machine.specs.declared.Command.TheVariants as command
use Rattle.machine.proofs.Bytes.{bytes-big_endian, value-back}
use Rattle.machine.specs.declared.Stop.TheVariants.{NoCommand, Truncated}

-- what stands at a position does not go by what stands before it
decode-suc : (x : ℕ) (s : List ℕ) (at : ℕ) → decode_at (x ∷ s) (suc at) ≡ decode_at s at
unfolding decode_at command_at eight
decode-suc x s at = simp (suc-add, suc-sub-suc)

pub decode-shift : (p s : List ℕ) → decode_at (p ++ s) (length p) ≡ decode_at s 0
decode-shift [] s = refl
decode-shift (x ∷ p) s = decode-suc x (p ++ s) (length p) ∙ decode-shift p s

-- eight bytes as the decoder and as the ledger read them
eight-value : (a b c d e f g h : ℕ) (r : List ℕ)
    → eight (a ∷ b ∷ c ∷ d ∷ e ∷ f ∷ g ∷ h ∷ r) 0 ≡ value_from 0 (a ∷ b ∷ c ∷ d ∷ e ∷ f ∷ g ∷ h ∷ [])
unfolding eight value_from
eight-value a b c d e f g h r = omega arith

-- eight bytes of a value, read back
pub eight-back : (v : ℕ) (r : List ℕ) → ltb v (2 ^ 64) ≡ true → eight (big_endian 8 v ++ r) 0 ≡ v
eight-back v r h =
    rw (← bytes-big_endian v) (eight-value _ _ _ _ _ _ _ _ r ∙ ap (value_from 0) (bytes-big_endian v) ∙ value-back v (ltb-true _ _ h))

-- a command whose bytes are all there
known_at : (r : List ℕ) (c : Command) → fits c ≡ true → ltb (length (encoded c ++ r) - 0) (length (encoded c)) ≡ false
    → decode_at (encoded c ++ r) 0 ≡ Ok (c, length (encoded c))
unfolding decode_at width_of command_at encoded fits eight big_endian
known_at r (command.Write strand register value) h w = rw (w, eight-back value r h)
known_at r (command.Insert strand side flags word) h w = rw (w, eight-back word r h)
known_at r (command.DemapPage strand side selector flags address) h w = rw (w, eight-back address.0 r h)
known_at r (command.DemapContext strand side selector) h w = rw w
known_at r (command.DemapAll strand side) h w = rw w
known_at r (command.Invalidate side) h w = rw w
known_at r (command.Access strand kind selector size address) h w = rw (w, eight-back address.0 r h)
known_at r (command.Read strand register) h w = rw w
known_at r (command.Pointers strand side) h w = rw w
known_at r (command.Rate strand side) h w = rw w

-- a byte that is no command's differs from one that is
no-command : (b k : ℕ) → (ltb b 1 || ltb 10 b) ≡ true → (ltb k 1 || ltb 10 k) ≡ false → eqb b k ≡ false
no-command b k h i = by-test (eqb b k) (λ e. clash h (rw (eqb-true b k e) i)) (λ e. e)

unknown-at : (s : List ℕ) (at : ℕ) → (ltb (byte s at) 1 || ltb 10 (byte s at)) ≡ true → decode_at s at ≡ Err NoCommand
unfolding decode_at width_of
unknown-at s at h =
    let no : (k : ℕ) → (ltb k 1 || ltb 10 k) ≡ false → eqb (byte s at) k ≡ false = λ k. no-command (byte s at) k h in
    simp (no 1 refl, no 2 refl, no 3 refl, no 4 refl, no 5 refl, no 6 refl, no 7 refl, no 8 refl, no 9 refl, no 10 refl)

-- a command's byte with too few bytes from it
cut_at : (s : List ℕ) (c : Command) → byte s 0 ≡ byte (encoded c) 0 → ltb (length s - 0) (length (encoded c)) ≡ true → decode_at s 0 ≡ Err Truncated
unfolding decode_at width_of encoded big_endian
cut_at s (command.Write strand register value) e w = rw (e, w)
cut_at s (command.Insert strand side flags word) e w = rw (e, w)
cut_at s (command.DemapPage strand side selector flags address) e w = rw (e, w)
cut_at s (command.DemapContext strand side selector) e w = rw (e, w)
cut_at s (command.DemapAll strand side) e w = rw (e, w)
cut_at s (command.Invalidate side) e w = rw (e, w)
cut_at s (command.Access strand kind selector size address) e w = rw (e, w)
cut_at s (command.Read strand register) e w = rw (e, w)
cut_at s (command.Pointers strand side) e w = rw (e, w)
cut_at s (command.Rate strand side) e w = rw (e, w)

short-at : (q r : List ℕ) (c : Command) → encoded c ≡ q ++ r → 1 ≤ length q → 1 ≤ length r → decode_at q 0 ≡ Err Truncated
short-at [] r c e i j = absurd (omega arith)
short-at (x ∷ q) r c e i j =
    cut_at (x ∷ q) c (sym (ap (λ s. byte s 0) e)) (lt-ltb (length (x ∷ q) - 0) (length (encoded c)) (omega (arith, ap length e, length-append (x ∷ q) r)))

pub decodes : Decodes
decodes = record {
  known = λ p r c h.
      decode-shift p (encoded c ++ r)
      ∙ known_at r c h (le-ltb (length (encoded c ++ r) - 0) (length (encoded c)) (omega (arith, length-append (encoded c) r)));
  unknown = unknown-at;
  short = λ p q r c e i j. decode-shift p q ∙ short-at q r c e i j;
  numbers = (refl, refl, refl, refl);
}
