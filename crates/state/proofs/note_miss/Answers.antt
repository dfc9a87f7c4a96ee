-- `state::note_miss` meets its contract.
use Prim.Native.Nat.{ℕ, ◌<◌, ◌^◌, ◌+◌}
use native.Mathlib.Omega.{arith}
use lib.ListN.{get_or}
use borrow.Author.Rules.{rules}
use Rattle.state.proofs.Lookups.{newest-at, miss-stored}
use Rattle.state.proofs.note_miss.Goals as goal

pub overflow_add-state-2 : goal.overflow_add-state-2
overflow_add-state-2 c =
    let r = c.record_of-number.result in
    let at = newest-at c.args.state.now c.told-state r c.record_of-number.ensures.small in
    let fits : (k : ℕ) → get_or c.args.state.now k 0 < 2 ^ 64 = search rules in
    omega (arith, at, rw (← c.record_of-number.ensures.record) at c.requires, fits (648 + r))

pub returns : goal.returns
returns c = rw (← c.record_of-number.ensures.record) (miss-stored c.args.state.now c.told-state _ c.record_of-number.ensures.small)
