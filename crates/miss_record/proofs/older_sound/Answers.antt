-- `miss_record::older_sound` meets its contract.
use Prim.Native.Nat.{ℕ, ◌+◌, ◌*◌, ◌<◌}
use mathlib.Core.Path.{◌≡◌, ◌∙◌}
use mathlib.Core.Bool.{◌||◌}
use mathlib.Core.List.{List}
use native.Mathlib.Omega.{arith}
use borrow.Author.Tests.{ltb-true, lt-ltb}
use lib.Dec.{eqb, ltb}
use lib.ListN.{get_or}
use Rattle.laws.specs.Tests.{all_below}
use Rattle.laws.proofs.Bools.{by-test}
use Rattle.laws.proofs.Belows.{below-same}
use Rattle.miss_record.proofs.older_sound.Goals as goal

-- words that are all in use need not be asked
passed : (seen from : ℕ) (older : List ℕ) → ((j : ℕ) → j < from → 64 * (j + 1) < seen)
    → all_below (λ j. ltb j from || (ltb (64 * (j + 1)) seen || eqb (get_or older j 0) 0)) 15
    ≡ all_below (λ j. ltb (64 * (j + 1)) seen || eqb (get_or older j 0) 0) 15
passed seen from older h =
    below-same _ _ 15 (λ j l. by-test (ltb j from) (λ e. rw (e, lt-ltb (64 * (j + 1)) seen (h j (ltb-true j from e)))) (λ e. rw e))

pub returns-then-seen-gt448 : goal.returns-then-seen-gt448
returns-then-seen-gt448 c = c.clear_from.ensures ∙ passed _ 7 c.args.older.now (λ j l. omega (arith, c.if-seen-gt448.true))

pub returns : goal.returns
returns c = c.clear_from-2.ensures ∙ passed _ 0 c.args.older.now (λ j l. absurd (omega (arith, l)))
