-- `tte::pack` meets its contract: fields in places of their own, joined by `|`, are their sum.
use Prim.Native.Nat.{ℕ, ◌+◌, ◌*◌, ◌%◌, ◌^◌, ◌≤◌}
use mathlib.Core.Path.{◌≡◌, refl, ap, ◌∙◌}
use native.Mathlib.Omega.{arith}
use native.Mathlib.Nat.{mod-lt, add-mul, mul_assoc}
use lib.Bits.{bit_or, or_shifted}
use lib.Pow.{pow_pos, pow-add, shl_lt}
use Rattle.machine.specs.Words.{packed, unpacked}
use Rattle.machine.proofs.Words.{unpack-pack}
use Rattle.tte.proofs.pack.Goals as goal

-- a word that is zero below bit k, and its digits from there up
record From (k word digits : ℕ) : Type 0 where
  same : word ≡ digits * 2 ^ k
  room : k ≤ 64

-- a field of n bits goes behind the digits, shifted up by k
behind : (n k x : ℕ) {word digits : ℕ} → From (n + k) word digits → From k (bit_or word (x % 2 ^ n * 2 ^ k)) (digits * 2 ^ n + x % 2 ^ n)
behind n k x f =
    record {
      same = rw (f.same, or_shifted _ (n + k) _ (shl_lt n k (mod-lt x (pow_pos n))), pow-add, add-mul, ← mul_assoc);
      room = omega (arith, f.room);
    }

pub returns : goal.returns
unfolding packed
returns c =
    let t = c.args.t in
    let v : From 63 (t.v % 2 ^ 1 * 2 ^ 63) (t.v % 2) = record { same = refl; room = omega arith } in
    let from-13 = behind 43 13 t.address (behind 6 56 t.soft2 (behind 1 62 t.nfo v)) in
    let from-9 = behind 1 9 t.cv (behind 1 10 t.cp (behind 1 11 t.e (behind 1 12 t.ie from-13))) in
    let from-6 = behind 1 6 t.w (behind 1 7 t.ep (behind 1 8 t.p from-9)) in
    let all = behind 4 0 t.size (behind 2 4 t.soft from-6) in
    let word : _ ≡ packed t = rw (
      c.placed.ensures,
      c.placed-2.ensures,
      c.placed-3.ensures,
      c.placed-4.ensures,
      c.placed-5.ensures,
      c.placed-6.ensures,
      c.placed-7.ensures,
      c.placed-8.ensures,
      c.placed-9.ensures,
      c.placed-10.ensures,
      c.placed-11.ensures,
      c.placed-12.ensures,
      c.placed-13.ensures,
    ) (all.same ∙ omega arith) in record {
      word = word;
      again = λ h. ap unpacked word ∙ unpack-pack t h;
    }
