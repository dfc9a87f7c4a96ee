-- Words without a set bit, and a sound record by them. Assumes nothing.
use Prim.Native.Nat.{ℕ, ◌+◌, ◌*◌, ◌/◌, ◌^◌, ◌≤◌, ◌<◌}
use mathlib.Core.Path.{◌≡◌, sym, ap, ◌∙◌}
use mathlib.Core.Bool.{true, cond, ◌&&◌, ◌||◌, and-true}
use mathlib.Core.List.{List}
use native.Mathlib.Nat.{add_comm, div-lt_iff_lt-mul}
use native.Mathlib.Omega.{arith}
use lib.Bits.{bit_or, or_add_and, and_le_l, and_le_r}
use lib.Dec.{eqb, ltb}
use lib.ListN.{get_or}
use lib.Pow.{pow_pos, pow-add}
use borrow.Author.Tests.{eqb-true, ltb-true, eq-eqb, lt-ltb}
use Rattle.laws.specs.Tests.{all_below}
use Rattle.laws.proofs.Bools.{by-test, both_ways, and_both, and_left, and_right}
use Rattle.laws.proofs.Belows.{below_all, below-same}
use Rattle.machine.specs.Record.{newest_bits, older_sound, record_sound}

-- two words have none where their union has none
pub or-clear : (a b : ℕ) → eqb (bit_or a b) 0 ≡ (eqb b 0 && eqb a 0)
or-clear a b =
    both_ways (eqb (bit_or a b) 0) (eqb b 0 && eqb a 0)
    (λ h.
    let z : bit_or a b ≡ 0 = eqb-true _ 0 h in
    and_both _ _
    (eq-eqb b 0 (omega (arith, or_add_and a b, and_le_l a b)))
    (eq-eqb a 0 (omega (arith, or_add_and a b, and_le_r a b))))
    (λ h. rw (eqb-true b 0 (and_left (eqb b 0) _ h), eqb-true a 0 (and_right (eqb b 0) _ h)))

pub zero-below : (w : ℕ) → eqb w 0 ≡ ltb w 1
zero-below w =
    both_ways (eqb w 0) (ltb w 1)
    (λ e. lt-ltb w 1 (omega (arith, eqb-true w 0 e)))
    (λ e. eq-eqb w 0 (omega (arith, ltb-true w 1 e)))

-- a word has no bit past bit k where a shift by k leaves that bit alone
pub shift-low : (w k : ℕ) → ltb (w / 2 ^ k) 2 ≡ ltb w (2 ^ (k + 1))
shift-low w k =
    let e : 2 * 2 ^ k ≡ 2 ^ (k + 1) = sym (pow-add 2 1 k) ∙ ap (λ i. 2 ^ i) (add_comm 1 k) in
    both_ways (ltb (w / 2 ^ k) 2) (ltb w (2 ^ (k + 1)))
    (λ h. lt-ltb w (2 ^ (k + 1)) (rw e at ((div-lt_iff_lt-mul {y = 2} (pow_pos k)).0 (ltb-true (w / 2 ^ k) 2 h))))
    (λ h. lt-ltb (w / 2 ^ k) 2 ((div-lt_iff_lt-mul {y = 2} (pow_pos k)).1 (rw (sym e) at (ltb-true w (2 ^ (k + 1)) h))))

module _ (n : ℕ) (old : List ℕ) (fit : (j : ℕ) → get_or old j 0 < 2 ^ 64) where
  -- a word in use has any bits, and one not in use none
  word-clear : (j : ℕ) → ltb (get_or old j 0) (cond (ltb (64 * (j + 1)) n) (2 ^ 64) 1) ≡ (ltb (64 * (j + 1)) n || eqb (get_or old j 0) 0)
  word-clear j = by-test (ltb (64 * (j + 1)) n)
      (λ e. rw e (lt-ltb (get_or old j 0) (2 ^ 64) (fit j)))
      (λ e. rw e (sym (zero-below (get_or old j 0))))

  older-clear : older_sound n old ≡ all_below (λ j. ltb (64 * (j + 1)) n || eqb (get_or old j 0) 0) 15
  older-clear = below-same _ _ 15 (λ j l. word-clear j)

  -- of more than 1,024 lookups every bit may be set
  pub record-long : (word : ℕ) → 1024 < n → word < 2 ^ 64 → record_sound n word old ≡ ltb n 1089
  unfolding record_sound
  record-long word h b =
      let each : older_sound n old ≡ true = older-clear ∙ below_all _ 15 (λ j l. rw (lt-ltb (64 * (j + 1)) n (omega arith))) in
      rw (lt-ltb 1024 n h, lt-ltb word (2 ^ 64) b, each) (and-true (ltb n 1089))

  -- of others the newest word has no bit past its outcomes, and a word not in use none
  pub record-short : (word : ℕ) → n ≤ 1024
      → record_sound n word old ≡ (ltb word (2 ^ newest_bits n) && all_below (λ j. ltb (64 * (j + 1)) n || eqb (get_or old j 0) 0) 15)
  unfolding record_sound
  record-short word h = rw (lt-ltb n 1089 (omega arith), older-clear)
