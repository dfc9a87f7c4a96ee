-- `tlb_update::insert` meets its contract.
use mathlib.Core.Path.{ap, ◌∙◌}
use Rattle.machine.specs.Slots.{slots_of}
use Rattle.machine.specs.Insertion.{inserted, placed}
use Rattle.machine.proofs.Slots.{slots-back}
use Rattle.tlb_update.proofs.insert.Goals as goal

pub returns : goal.returns
unfolding inserted placed
returns c =
    let e = ap slots_of c.make_way.ensures ∙ slots-back _ in record {
      words = c.place.ensures.words ∙ rw (c.choose-chosen.ensures, e);
      placed = c.place.ensures.placed ∙ rw (c.choose-chosen.ensures, e);
    }
