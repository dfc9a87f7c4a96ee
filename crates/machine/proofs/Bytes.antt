-- The bytes of answers: their length, the unit's and the ledger's as one, and what is read back from them. Assumes nothing.
use Prim.Native.Nat.{ℕ, zero, suc, ◌+◌, ◌*◌, ◌/◌, ◌%◌, ◌^◌, ◌<◌}
use mathlib.Core.Path.{◌≡◌, refl}
use mathlib.Core.Bool.{Bool}
use mathlib.Core.List.{List, [], ◌∷◌, ◌++◌}
use native.Mathlib.Omega.{arith}
use native.Mathlib.Nat.{div-div-eq-div-mul, mod-eq_of_lt, mul_assoc, one-le-pow, pow-suc, zero-lt-suc}
use lib.Arith.{mod-mul}
use lib.ListN.{length, get_or, length-append}
use Rattle.machine.specs.State.{State}
use Rattle.machine.specs.Step.{step}
use Rattle.machine.specs.Stream.{bytes, answer_of, answer_bytes, answers_bytes}
use Rattle.machine.specs.Ledger.{big_endian, line, value_from, name_in}
use Rattle.machine.specs.declared.Command.{Command}
use Rattle.machine.specs.declared.Answer.{Answer}

-- ---- lengths
pub answer-length : (a : Answer) → length (answer_bytes a) ≡ 24
unfolding answer_bytes
answer-length a = refl

pub answers-length : (hv : Bool) (cs : List Command) (u : State) → length (answers_bytes hv u cs) ≡ length cs * 24
unfolding answers_bytes
answers-length hv [] u = refl
answers-length hv (c ∷ cs) u =
    rw (length-append, answer-length) (omega (arith, answers-length hv cs (step hv u c).state))

-- ---- the unit's bytes are the ledger's
pub bytes-big_endian : (v : ℕ) → bytes v ≡ big_endian 8 v
unfolding big_endian
bytes-big_endian v = simp div-div-eq-div-mul

pub line-answer : (kind v w : ℕ) {a b c : ℕ} → a < 256 → b < 256 → c < 256 → answer_of kind a b c v w ≡ line kind a b c v w
unfolding line
line-answer kind v w h i j =
    rw (mod-eq_of_lt h, mod-eq_of_lt i, mod-eq_of_lt j, ← bytes-big_endian v, ← bytes-big_endian w)

-- ---- values read back
value-append : (xs ys : List ℕ) (high : ℕ) → value_from high (xs ++ ys) ≡ value_from (value_from high xs) ys
unfolding value_from
value-append [] ys high = refl
value-append (x ∷ xs) ys high = value-append xs ys (high * 256 + x)

-- k bytes of a value, read below a high part
pub value-of-bytes : (k high v : ℕ) → value_from high (big_endian k v) ≡ high * 256 ^ k + v % 256 ^ k
unfolding big_endian value_from
value-of-bytes zero high v = omega arith
value-of-bytes (suc k) high v =
    rw (value-append (big_endian k (v / 256)), value-of-bytes k high (v / 256), pow-suc, mod-mul v (one-le-pow k 256 (zero-lt-suc 255)) (zero-lt-suc 255))
    (omega (arith, mul_assoc high (256 ^ k) 256))

pub value-back : (v : ℕ) → v < 2 ^ 64 → value_from 0 (big_endian 8 v) ≡ v
value-back v h = omega (arith, value-of-bytes 8 0 v)

-- the displaced entry that an answer names
pub name_back : {p r v w : ℕ} → p < 256 → r < 256 → v < 2 ^ 64 → w < 2 ^ 64 →
    name_in (answer_of 4 0 p r v w) ≡ record { partition = p; real = r; place = v; word = w }
unfolding name_in
name_back {v} {w} h i j k =
    let back : (x : ℕ) → x < 2 ^ 64 → value_from 0 (bytes x) ≡ x = λ x l. rw bytes-big_endian (value-back x l) in
    rw (mod-eq_of_lt h, mod-eq_of_lt i, back v j, back w k)

-- ---- answers told apart
pub line-kind : (kind a b c v w : ℕ) → get_or (line kind a b c v w) 0 0 ≡ kind
unfolding line
line-kind kind a b c v w = refl
