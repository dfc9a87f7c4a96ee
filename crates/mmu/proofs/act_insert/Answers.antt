-- `mmu::act_insert` meets its contract.
use mathlib.Core.Path.{◌∙◌}
use Rattle.machine.specs.State.{counts, state_in}
use Rattle.machine.specs.Step.{act}
use Rattle.machine.proofs.State.{sound-side}
use Rattle.mmu.proofs.Passes.{place-fits}
use Rattle.mmu.proofs.act_insert.Goals as goal

pub placed_to_answer-requires : goal.placed_to_answer-requires
placed_to_answer-requires c =
    let u = state_in c.args.state.now in
    rw c.insert_side-placed.ensures.placed (place-fits _ _ (sound-side counts u c.requires c.args.side).1)

pub returns : goal.returns
unfolding act
returns c =
    let did = c.insert_side-placed in
    let e = c.entry_for-new.ensures in
    record { words = did.ensures.words ∙ rw e; answer = c.placed_to_answer.ensures ∙ rw (did.ensures.placed, e) }
