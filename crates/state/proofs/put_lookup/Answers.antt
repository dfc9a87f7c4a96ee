-- `state::put_lookup` meets its contract.
use native.Mathlib.Omega.{arith}
use Rattle.state.proofs.Lookups.{seen_at, put-stored}
use Rattle.state.proofs.put_lookup.Goals as goal

pub overflow_add-state-2 : goal.overflow_add-state-2
overflow_add-state-2 c = omega (arith, seen_at c.args.state.now c.told-state c.args.number c.requires.0, c.requires.1)

pub returns : goal.returns
returns c = put-stored c.args.state.now c.told-state c.args.number c.requires.0 c.push.result c.push.ensures
