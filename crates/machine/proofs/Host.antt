-- What is told to a host: a mode changes one word of the registers' row, no lookups are 136 words of 0, and the ends of a rate are arithmetic. Assumes nothing.
use Prim.Native.Nat.{ℕ, ◌+◌, ◌*◌, ◌/◌, ◌%◌, ◌≤◌, ◌<◌}
use mathlib.Core.Path.{◌≡◌, sym, ap, ◌∙◌}
use mathlib.Core.Bool.{Bool, ◌&&◌}
use mathlib.Core.List.{List, [], ◌++◌, append_assoc}
use native.Mathlib.Nat.{mul-div_cancel}
use native.Mathlib.Omega.{arith}
use lib.Dec.{eqb}
use lib.ListN.{length, set, replicate, length-set}
use lib.Seq.{set-append_left, get_or-set_same, get_or-set_other, ext_get_or}
use borrow.Author.Tests.{eqb-true, eq-eqb, le-leb}
use Rattle.laws.specs.Passing.{how_many}
use Rattle.laws.proofs.Bools.{by-test, clash, and_both, and_left, and_right}
use Rattle.machine.specs.Ledger.{thousandths}
use Rattle.machine.specs.Places.{Reference, side_words, row, outcomes_word, reference_words}
use Rattle.machine.specs.Good.{ReferenceGood, GoodWords}
use Rattle.machine.specs.Host.{with_mode, GoodBefore, HostTold}
use Rattle.machine.proofs.Record.{row-length, row_at}

ruleset conj = (and_left, and_right, eqb-true)

-- ---- a mode
module _ (k : Reference) (strand mode : ℕ) where
  mode-good : {n : ℕ → ℕ} → ReferenceGood n k → mode ≤ 2 → ReferenceGood n (with_mode k strand mode)
  mode-good g m = record {
    registers = λ s r b c. by-test (eqb s strand && eqb r 3)
        (λ e.
        let t : r ≡ 3 = search conj in
        rw (e, t) (le-leb mode 2 m))
        (λ e. rw e (g.registers s r b c));
    sides = g.sides;
    listed = g.listed;
  }

  -- the row of registers, set at one place
  mode-row : strand < 4 → set (row (λ i. k.ledger.registers (i / 32) (i % 32)) 128) (32 * strand + 3) mode
      ≡ row (λ i. (with_mode k strand mode).ledger.registers (i / 32) (i % 32)) 128
  mode-row s =
      let f : ℕ → ℕ = λ i. k.ledger.registers (i / 32) (i % 32) in
      let at : ℕ = 32 * strand + 3 in
      ext_get_or 0 _ _ (length-set (row f 128) at mode ∙ row-length f 128 ∙ sym (row-length _ 128)) (λ i b.
      let c : i < 128 = omega (arith, length-set (row f 128) at mode, row-length f 128) in
      by-test (eqb (i / 32) strand && eqb (i % 32) 3)
      (λ e.
      let p : i / 32 ≡ strand = search conj in
      let q : i % 32 ≡ 3 = search conj in
      let same : i ≡ at = omega arith in
      rw (row_at _ 128 i c, e, same) (get_or-set_same (row f 128) at mode 0 (omega (arith, row-length f 128))))
      (λ e.
      let other : i ≡ at → ⊥ = λ z. clash (and_both _ _ (eq-eqb (i / 32) strand (omega arith)) (eq-eqb (i % 32) 3 (omega arith))) e in
      get_or-set_other (row f 128) at i mode 0 other ∙ row_at f 128 i c ∙ sym (row_at _ 128 i c ∙ rw e)))

  mode-words : strand < 4 → set (reference_words k) (32 * strand + 3) mode ≡ reference_words (with_mode k strand mode)
  unfolding reference_words
  mode-words s =
      let f : ℕ → ℕ = λ i. k.ledger.registers (i / 32) (i % 32) in
      set-append_left (row f 128) _ (32 * strand + 3) mode (omega (arith, row-length f 128)) ∙ rw (mode-row s)

-- ---- a state of before, with no lookups
abbrev without_lookups : Reference → Reference
without_lookups k = record {
  ledger = record { registers = k.ledger.registers; entries = k.ledger.entries; lookups = λ strand side. [] };
  places = k.places;
}

before-good : {n : ℕ → ℕ} (words : List ℕ) → GoodBefore n words → GoodWords n (words ++ replicate 136 0)
unfolding reference_words row outcomes_word
before-good words (k, g, e) = (
  without_lookups k,
  record { registers = g.registers; sides = g.sides; listed = g.listed },
  rw e (append_assoc (row (λ i. k.ledger.registers (i / 32) (i % 32)) 128) (side_words (k.places 0) ++ side_words (k.places 1)) (replicate 136 0)
      ∙ ap (λ (x : List ℕ). row (λ i. k.ledger.registers (i / 32) (i % 32)) 128 ++ x) (append_assoc (side_words (k.places 0)) (side_words (k.places 1)) (replicate 136 0))),
)

-- ---- a rate
module _ (m : List Bool) (some : 1 ≤ length m) where
  -- so many of a thousand, of each lookup as many
  of-each : (k : ℕ) → how_many (λ missed. missed) m * 1000 ≡ k * length m → thousandths m ≡ k
  unfolding thousandths
  of-each k e =
      let above : 1000 * how_many (λ missed. missed) m ≡ k * length m = omega arith in
      ap (λ (x : ℕ). x / length m) above ∙ mul-div_cancel k some

  rate-none : how_many (λ missed. missed) m ≡ 0 → thousandths m ≡ 0
  rate-none e = of-each 0 (rw e (omega arith))

  rate-all : how_many (λ missed. missed) m ≡ length m → thousandths m ≡ 1000
  rate-all e = of-each 1000 (rw e (omega arith))

pub host-told : (n : ℕ → ℕ) → HostTold n
host-told n = record {
  modes = λ k g strand mode s m. (mode-words k strand mode s, mode-good k strand mode g m);
  older = before-good;
  none = rate-none;
  all = rate-all;
}
