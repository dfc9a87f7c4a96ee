-- Registers of one range may hold the same values, and a strand's cells are asked range by range. Assumes nothing.
use Prim.Native.Nat.{ℕ, zero, suc, ◌+◌, ◌≤◌, ◌<◌}
use mathlib.Core.Bool.{Bool, true, false, ◌&&◌, ◌||◌, and-true, and-false}
use mathlib.Core.List.{List}
use mathlib.Core.Path.{◌≡◌, refl, sym, ◌∙◌}
use native.Mathlib.Omega.{arith}
use lib.Dec.{ltb, leb}
use lib.ListN.{length, get_or, take, drop, length-drop}
use lib.Seq.{get_or-drop}
use borrow.Author.Tests.{lt-ltb, le-ltb, leb-true}
use Rattle.std.specs.List.{list_all}
use Rattle.std.proofs.lemmas.List.Folds.{list_all_more}
use Rattle.laws.specs.Tests.{all_below}
use Rattle.laws.proofs.Bools.{by-test, and_left, and_right, or-other}
use Rattle.machine.specs.Registers.{allowed}

-- no range of registers begins at b, between the numbers from and to
abbrev pub clear : ℕ → ℕ → ℕ → Bool
clear from to b = leb b from || leb to b

-- the numbers from .. to are of one range: their registers may hold the same values
abbrev pub one_range : ℕ → ℕ → Bool
one_range from to =
    clear from to 1 && (clear from to 3 && (clear from to 4 && (clear from to 5 && (clear from to 6
    && (clear from to 8 && (clear from to 16 && (clear from to 20 && clear from to 26)))))))

ruleset conj = (and_left, and_right)

module _ (from to k : ℕ) (l : from ≤ k) (h : k < to) where
  -- a bound that is clear of a range does not tell its numbers apart
  same : (b : ℕ) → clear from to b ≡ true → ltb k b ≡ ltb from b
  same b e = by-test (leb b from)
      (λ t.
      let u = leb-true b from t in
      le-ltb k b (omega arith) ∙ sym (le-ltb from b u))
      (λ t.
      let u = leb-true to b (or-other _ _ e t) in
      lt-ltb k b (omega arith) ∙ sym (lt-ltb from b (omega arith)))

  pub ranged : (value : ℕ) → one_range from to ≡ true → allowed k value ≡ allowed from value
  unfolding allowed
  ranged value e =
      rw (
        same 1 (search conj),
        same 3 (search conj),
        same 4 (search conj),
        same 5 (search conj depth 9),
        same 6 (search conj depth 9),
        same 8 (search conj depth 9),
        same 16 (search conj depth 9),
        same 20 (search conj depth 9),
        same 26 (search conj depth 9),
      )

-- whether cell k of a strand holds what it may
abbrev pub cell_fits : List ℕ → ℕ → Bool
cell_fits cells k = allowed k (get_or cells k 0)

-- the first of three tests, asked last
and_turn : (a b c : Bool) → (a && (b && c)) ≡ (b && (c && a))
and_turn true b c = rw (and-true c)
and_turn false b c = rw (and-false c, and-false b)

-- the cells up to the end of a range, its own asked what the first of them may hold
pub more-fit : (cells : List ℕ) (from to n : ℕ) → from + n ≤ length cells → from + n ≤ to → one_range from to ≡ true
    → all_below (cell_fits cells) (from + n) ≡ (all_below (cell_fits cells) from && list_all (allowed from) (take n (drop from cells)))
unfolding all_below
more-fit cells from to zero room l e = let at : from + 0 ≡ from = omega arith in rw at (sym (and-true (all_below (cell_fits cells) from)))
more-fit cells from to (suc n) room l e =
    let at : from + suc n ≡ suc (from + n) = omega arith in
    let before = more-fit cells from to n (omega arith) (omega arith) e in
    let own : cell_fits cells (from + n) ≡ allowed from (get_or (drop from cells) n 0) =
    ranged from to (from + n) (omega arith) (omega arith) (get_or cells (from + n) 0) e ∙ rw (get_or-drop from cells n 0) in
    let one : n + 1 ≡ suc n = omega arith in
    let more = list_all_more (allowed from) (drop from cells) n 0 (omega (arith, length-drop from cells)) in
    rw (at, before, own, rw one at more) (and_turn _ (all_below (cell_fits cells) from) _)

module _ (cells : List ℕ) (long : length cells ≡ 32) where
  -- the test of the cells from .. on
  abbrev pub part : ℕ → ℕ → Bool
  part from n = list_all (allowed from) (take n (drop from cells))

  pub strand-fits : all_below (cell_fits cells) 32
      ≡ (((((((((part 0 1 && part 1 2) && part 3 1) && part 4 1) && part 5 1) && part 6 2) && part 8 8) && part 16 4) && part 20 6) && part 26 6)
  unfolding all_below
  strand-fits = rw (
    more-fit cells 26 32 6 (omega arith) (omega arith) refl,
    more-fit cells 20 26 6 (omega arith) (omega arith) refl,
    more-fit cells 16 20 4 (omega arith) (omega arith) refl,
    more-fit cells 8 16 8 (omega arith) (omega arith) refl,
    more-fit cells 6 8 2 (omega arith) (omega arith) refl,
    more-fit cells 5 6 1 (omega arith) (omega arith) refl,
    more-fit cells 4 5 1 (omega arith) (omega arith) refl,
    more-fit cells 3 4 1 (omega arith) (omega arith) refl,
    more-fit cells 1 3 2 (omega arith) (omega arith) refl,
    more-fit cells 0 1 1 (omega arith) (omega arith) refl,
  )
