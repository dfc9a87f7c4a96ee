-- `state::miss_rate` meets its contract.
use Prim.Native.Nat.{ℕ, ◌+◌, ◌^◌, ◌≤◌, ◌<◌}
use mathlib.Core.Path.{◌≡◌, ap, ap₂, ◌∙◌}
use mathlib.Core.List.{List}
use native.Mathlib.Omega.{arith}
use borrow.Author.Tests.{eqb-false, not-true}
use lib.Count.{ones, ones-le}
use lib.ListN.{get_or}
use Rattle.machine.specs.Record.{kept, ones_of, per_thousand, miss_rate}
use Rattle.machine.specs.State.{state_in}
use Rattle.machine.specs.Questions.{has_lookups}
use mathlib.Core.Bool.{true}
use Rattle.state.proofs.Lookups.{newest-at}
use Rattle.state.proofs.miss_rate.Goals as goal

-- the newest word has at most 64 bits set
few : (words : List ℕ) (r : ℕ) → ((k : ℕ) → get_or words k 0 < 2 ^ 64) → ones (get_or words (648 + r) 0) ≤ 64
few words r h = ones-le 64 _ (omega (arith, h (648 + r)))

-- a lookup is kept
some : (words : List ℕ) (r : ℕ) {n : ℕ} → n ≡ kept (get_or (state_in words).records.seen r 0)
    → has_lookups (state_in words).records r ≡ true → 0 < n
some words r e h = let none = eqb-false (kept (get_or (state_in words).records.seen r 0)) 0 (not-true _ h) in omega (arith, e, none)

pub returns : goal.returns
unfolding miss_rate
returns c =
    let e = c.record_of-number.ensures.record in
    let newest = newest-at c.args.state.now c.told-state _ c.record_of-number.ensures.small in
    rw (← e) (c.per_thousand.ensures ∙ ap₂ per_thousand
    (ap₂ (λ a b. a + b) (c.from-newest.ensures ∙ ap ones newest) (c.count_ones-older.ensures.count ∙ ap (λ (w : List ℕ). ones_of w 15) c.older_of.ensures))
    (rw (← e) at c.lookups_kept.ensures))
