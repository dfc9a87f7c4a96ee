-- A line by its places, two digits for each byte of an answer, and what a caller learns from a run's contract. Assumes nothing.
use Prim.Native.Nat.{ℕ, zero, suc, ◌+◌, ◌*◌, ◌/◌, ◌%◌, ◌≤◌, ◌<◌}
use mathlib.Core.Bool.{Bool}
use mathlib.Core.List.{List}
use mathlib.Core.Path.{◌≡◌, refl, sym, ap, ◌∙◌}
use native.Mathlib.Omega.{arith}
use borrow.Author.Tests.{eqb-true, eqb-false, ne_eqb, ltb-true, ltb-false}
use lib.Dec.{eqb, ltb}
use lib.ListN.{length, get_or, set}
use lib.Seq.{ext_get_or, get_or-set_same, get_or-set_other}
use Rattle.std.specs.Str.{IsAscii}
use Rattle.std.proofs.lemmas.List.{get_or_past}
use Rattle.laws.proofs.Bools.{by-test}
use Rattle.machine.specs.State.{counts}
use Rattle.machine.specs.Stream.{Bytes, Outcome, outcome, run_of}
use Rattle.machine.specs.declared.Report.{Report}
use Rattle.machine.proofs.Runs.{run_room}
use Rattle.mmu_stream.specs.Line.{digit_of, line_at, list_of}

pub list_of-length : (f : ℕ → ℕ) (k n : ℕ) → length (list_of f k n) ≡ n
unfolding list_of
list_of-length f k zero = refl
list_of-length f k (suc n) = ap suc (list_of-length f (suc k) n)

list_of-at : (f : ℕ → ℕ) (n k i : ℕ) → i < n → get_or (list_of f k n) i 0 ≡ f (k + i)
unfolding list_of
list_of-at f zero k i h = absurd (omega arith)
list_of-at f (suc n) k zero h = ap f (omega arith)
list_of-at f (suc n) k (suc i) h = list_of-at f n (suc k) i (omega arith) ∙ ap f (omega arith)

-- a list is told by its places
pub table-all : (f : ℕ → ℕ) (s : List ℕ) (n : ℕ) → length s ≡ n → ((k : ℕ) → k < n → get_or s k 0 ≡ f k) → s ≡ list_of f 0 n
table-all f s n e p = ext_get_or 0 s (list_of f 0 n) (e ∙ sym (list_of-length f 0 n))
    (λ k h.
    let l : k < n = omega arith in
    p k l ∙ sym (list_of-at f n 0 k l ∙ ap f (omega arith)))

-- one place more filled in by its index
pub filled_more : (f : ℕ → ℕ) (s : List ℕ) (i v : ℕ) → i < length s → v ≡ f i
    → ((k : ℕ) → k < i → get_or s k 0 ≡ f k) → (k : ℕ) → k < i + 1 → get_or (set s i v) k 0 ≡ f k
filled_more f s i v h e p k l = by-test (eqb k i)
    (λ t. rw (eqb-true k i t) (get_or-set_same s i v 0 h ∙ e))
    (λ t.
    let other : k ≡ i → ⊥ = eqb-false k i t in
    get_or-set_other s i k v 0 other ∙ p k (omega arith))

module _ (s : Bytes) (i : ℕ) (h : i < 24) where
  pub high-digit : line_at s 0 (2 * i) ≡ digit_of (get_or s i 0 / 16)
  unfolding line_at
  high-digit =
      let half : 0 + 2 * i / 2 ≡ i = omega arith in
      let even : 2 * i % 2 ≡ 0 = omega arith in
      rw (ne_eqb (2 * i) 48 (λ e. omega arith), even, half)

  pub low-digit : line_at s 0 (2 * i + 1) ≡ digit_of (get_or s i 0 % 16)
  unfolding line_at
  low-digit =
      let half : 0 + (2 * i + 1) / 2 ≡ i = omega arith in
      let odd : (2 * i + 1) % 2 ≡ 1 = omega arith in
      rw (ne_eqb (2 * i + 1) 48 (λ e. omega arith), odd, half)

-- every place of a line is ASCII
line-below : (s : Bytes) (k : ℕ) → ((i : ℕ) → get_or s i 0 < 256) → line_at s 0 k < 128
unfolding line_at digit_of
line-below s k b =
    let high : get_or s (0 + k / 2) 0 / 16 < 16 = omega (arith, b (0 + k / 2)) in
    let low : get_or s (0 + k / 2) 0 % 16 < 16 = omega arith in
    grind arith

pub line-ascii : (s : Bytes) → ((i : ℕ) → get_or s i 0 < 256) → IsAscii (list_of (line_at s 0) 0 49)
line-ascii s b = λ i. by-test (ltb i 49)
    (λ t. rw (list_of-at (line_at s 0) 49 0 i (ltb-true i 49 t)) (line-below s (0 + i) b))
    (λ t. rw (get_or_past (list_of (line_at s 0) 0 49) i 0 (omega (arith, ltb-false i 49 t, list_of-length (line_at s 0) 0 49))) (omega arith))

-- behind the digits stands the line end
pub last-place : (s : Bytes) → line_at s 0 48 ≡ 10
unfolding line_at
last-place s = refl

-- the answers lie within the output
pub answers-fit : (hv : Bool) (words later : List ℕ) (input output filled : Bytes) (r : Report)
    → outcome later filled r ≡ run_of hv counts words input output → length filled ≡ length output → r.answered * 24 ≤ length filled
answers-fit hv words later input output filled r e h = omega (arith, ap (λ (o : Outcome). o.answered) e, run_room hv counts words input output)
