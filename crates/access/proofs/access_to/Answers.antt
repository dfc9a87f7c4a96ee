-- `access::access_to` meets its contract.
use mathlib.Core.Path.{refl, sym, ◌∙◌}
use Rattle.machine.specs.State.{counts}
use Rattle.machine.proofs.State.{encode-state, sound-registers}
use Rattle.access.proofs.access_to.Goals as goal

pub prepare_access-prepared-requires : goal.prepare_access-prepared-requires
prepare_access-prepared-requires c = (c.requires.0, sound-registers counts _ c.requires.1)

pub take_trap-requires : goal.take_trap-requires
take_trap-requires c =
    let fits = rw c.in-Stopped.is at c.prepare_access-prepared.ensures.fits in
    fits

pub returns-in-Stopped : goal.returns-in-Stopped
returns-in-Stopped c = rw (sym c.prepare_access-prepared.ensures.prepared ∙ c.in-Stopped.is) c.take_trap.ensures

pub returns-in-Bypass : goal.returns-in-Bypass
returns-in-Bypass c =
    rw (sym c.prepare_access-prepared.ensures.prepared ∙ c.in-Bypass.is)
    (record { words = sym (encode-state counts c.args.state.now c.told-state); answer = refl })

pub returns-in-Lookup : goal.returns-in-Lookup
returns-in-Lookup c = rw (sym c.prepare_access-prepared.ensures.prepared ∙ c.in-Lookup.is) c.look_up.ensures
