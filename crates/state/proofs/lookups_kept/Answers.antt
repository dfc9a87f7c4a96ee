-- `state::lookups_kept` meets its contract.
use native.Mathlib.Omega.{arith}
use Rattle.state.proofs.Lookups.{seen_at}
use Rattle.state.proofs.lookups_kept.Goals as goal

pub returns-then-seen-lt1024 : goal.returns-then-seen-lt1024
returns-then-seen-lt1024 c =
    let e = c.record_of.ensures.record in
    rw (← e) (omega (arith, seen_at c.args.state.now c.told-state _ c.record_of.ensures.small, c.if-seen-lt1024.true))

pub returns : goal.returns
returns c =
    let e = c.record_of.ensures.record in
    rw (← e) (omega (arith, seen_at c.args.state.now c.told-state _ c.record_of.ensures.small, c.if-seen-lt1024.false))
