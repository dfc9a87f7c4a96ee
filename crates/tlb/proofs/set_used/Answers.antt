-- `tlb::set_used` meets its contract.
use mathlib.Core.Path.{refl}
use Rattle.machine.specs.Slots.{with_used}
use Rattle.machine.proofs.Slots.{flags-on}
use Rattle.tlb.proofs.set_used.Goals as goal

pub returns : goal.returns
returns c = flags-on with_used c.args.slots.now c.args.i _ c.requires refl
