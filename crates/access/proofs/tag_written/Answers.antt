-- `access::tag_written` meets its contract.
use mathlib.Core.Path.{sym, ◌∙◌}
use native.Mathlib.Omega.{arith}
use Rattle.machine.specs.State.{state_in}
use Rattle.machine.proofs.State.{strand-sound}
use Rattle.access.proofs.tag_written.Goals as goal

pub returns-then-translation_on : goal.returns-then-translation_on
returns-then-translation_on c =
    let a = c.args.a.now in
    let sound = strand-sound (state_in c.args.state.now).registers a.strand c.requires c.translation_on.ensures.small in record {
      tag = rw (sym c.translation_on.ensures.on ∙ c.if-translation_on.true, c.selected_context.ensures);
      fits = rw c.selected_context.ensures (sound.contexts a.selector);
    }

pub returns : goal.returns
returns c =
    record {
      tag = rw (sym c.translation_on.ensures.on ∙ c.if-translation_on.false);
      fits = omega arith;
    }
