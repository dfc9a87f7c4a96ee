-- An answer's three words as bytes, and the stores that write them. Assumes nothing.
use Prim.Native.Nat.{ℕ, ◌+◌, ◌%◌, ◌≤◌, ◌<◌}
use mathlib.Core.List.{[], ◌∷◌, ◌++◌, append_assoc}
use mathlib.Core.Path.{◌≡◌, refl, ap, sym, ◌∙◌}
use native.Mathlib.Omega.{arith}
use lib.ListN.{length}
use lib.Seq.{drop-drop, sets, sets-eq}
use borrow.Rule.Slice.PartMut.{put_mid}
use Rattle.laws.proofs.Stores.{sets-append}
use Rattle.machine.specs.Stream.{Bytes, bytes, fields_of, answer_bytes}
use Rattle.machine.specs.declared.Answer.{Answer}
use Rattle.machine.specs.declared.Answer.TheVariants as answer
use Rattle.wire.specs.Wire.{head_of, answer_words}
use Rattle.wire.specs.declared.AnswerWords.{AnswerWords}

-- bytes put over a part of as many are stores from where it starts
pub part-sets : (l vs ws : Bytes) (i k : ℕ) → ws ≡ vs → k ≡ length vs → i + k ≤ length l → put_mid i k l ws ≡ sets l i vs
part-sets l vs ws i k e n h = rw (e, n, drop-drop, ← append_assoc) (sym (sets-eq vs l i (omega arith)))

-- two lists are equal where their heads and their tails are
both : {x y : ℕ} {l m : Bytes} → x ≡ y → l ≡ m → (x ∷ l) ≡ (y ∷ m)
both e f = rw (e, f)

-- the bytes of a head word: each is a digit of the word to the base 256
head_bytes : (kind a b c : ℕ) → kind < 256 → bytes (head_of kind a b c) ≡ kind ∷ a % 256 ∷ b % 256 ∷ c % 256 ∷ 0 ∷ 0 ∷ 0 ∷ 0 ∷ []
head_bytes kind a b c h =
    both (omega arith) (both (omega arith) (both (omega arith) (both (omega arith)
    (both (omega arith) (both (omega arith) (both (omega arith) (both (omega arith) refl)))))))

-- a kind is a byte
kind-small : (a : Answer) → (fields_of a).kind < 256
kind-small (answer.Done n) = omega arith
kind-small (answer.Physical t) = omega arith
kind-small (answer.Trap t) = omega arith
kind-small (answer.Read v w) = omega arith
kind-small (answer.Displaced d) = omega arith
kind-small (answer.Refused r) = omega arith
kind-small answer.NotInTable = omega arith
kind-small answer.Unsound = omega arith

-- the bytes of an answer's three words are the answer's
answer_bytes_lem : (a : Answer) → let f = fields_of a in bytes (answer_words f).head ++ (bytes f.first ++ bytes f.second) ≡ answer_bytes a
unfolding answer_bytes
answer_bytes_lem a =
    let f = fields_of a in
    ap (λ (t : Bytes). t ++ (bytes f.first ++ bytes f.second)) (head_bytes f.kind f.a f.b f.c (kind-small a))

-- three words stored one after the other are the answer
pub answer-stores : (l : Bytes) (at : ℕ) (a : Answer) {x y z : Bytes} {f : AnswerWords} → f ≡ answer_words (fields_of a) →
    x ≡ sets l at (bytes f.head) → y ≡ sets x (at + 8) (bytes f.first) → z ≡ sets y (at + 16) (bytes f.second) →
    z ≡ sets l at (answer_bytes a)
answer-stores l at a {x} {y} {z} {f} e p q r =
    let f₀ = answer_words (fields_of a) in
    let k : at + 8 + 8 ≡ at + 16 = omega arith in
    r ∙ rw (q, p, e, ← (answer_bytes_lem a), sets-append (bytes f₀.head), sets-append (bytes f₀.first), k)
