-- `tlb_update::make_way` meets its contract: where nothing overlaps, there is nothing to remove.
use mathlib.Core.Path.{ap, sym, ◌∙◌}
use Rattle.laws.proofs.Bools.{denies-true}
use Rattle.machine.specs.Slots.{slots_of, words_of}
use Rattle.machine.specs.Insertion.{overlaps}
use Rattle.machine.proofs.Slots.{words_back}
use Rattle.machine.proofs.Insertion.{removed-none}
use Rattle.tlb_update.proofs.make_way.Goals as goal

pub returns-else-not-overlaps_none : goal.returns-else-not-overlaps_none
returns-else-not-overlaps_none c =
    let l = c.args.slots.now in
    let none = denies-true c.overlaps_none.ensures c.if-not-overlaps_none.false in
    sym (ap words_of (removed-none (overlaps c.args.new) (slots_of l) none) ∙ words_back l c.requires)
