-- `access::key_of_access` meets its contract.
use mathlib.Core.Path.{◌≡◌, ◌∙◌}
use mathlib.Core.Bool.{not}
use Rattle.machine.specs.Registers.{partition, translates, selected}
use Rattle.machine.specs.State.{state_in}
use Rattle.machine.specs.Access.{lookup_key}
use Rattle.machine.proofs.State.{strand-sound}
use Rattle.machine.proofs.Sides.{key_fits}
use Rattle.access.proofs.key_of_access.Goals as goal

pub returns : goal.returns
returns c =
    let a = c.args.a.now in
    let file = (state_in c.args.state.now).registers in
    let sound = strand-sound file a.strand c.requires c.translation_on-on.ensures.small in
    let e : c.key_for.result ≡ lookup_key file a =
    c.key_for.ensures ∙ rw (c.translation_on-on.ensures.on, c.read_register-partition.ensures.read, c.selected_context-context.ensures) in record {
      key = e;
      fits = rw e (key_fits (partition file a.strand) (not (translates file a.strand a.side)) (selected file a.strand a.selector) a.used
          sound.partitions (sound.contexts a.selector));
    }
