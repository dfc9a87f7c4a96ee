-- `state::search_hinted` meets its contract: on a sound side a slot that answers is the only one.
use mathlib.Core.Path.{sym, ap, ◌∙◌}
use mathlib.Core.List.{List}
use native.Mathlib.Omega.{arith}
use Rattle.laws.proofs.Finds.{first-only}
use Rattle.machine.specs.Slots.{no_slot, answers_to}
use Rattle.machine.specs.State.{counts, State, state_in, side_of}
use Rattle.machine.specs.declared.Searched.{Searched}
use Rattle.machine.specs.declared.Slot.{Slot}
use Rattle.machine.proofs.Sound.{one-answers, sound-slot}
use Rattle.machine.proofs.State.{sound-side}
use Rattle.state.proofs.Lent.{side-slots}
use Rattle.state.proofs.search_hinted.Goals as goal

pub answers-requires : goal.answers-requires
answers-requires c =
    let u : State = state_in c.args.state.now in
    (rw c.slot_of.ensures (sound-slot (side_of u c.args.side) _ (sound-side counts u c.requires.0 c.args.side).1), c.requires.1)

pub returns-then-answers : goal.returns-then-answers
returns-then-answers c =
    let u : State = state_in c.args.state.now in
    let side : List Slot = side_of u c.args.side in
    let one = one-answers c.args.key side c.requires.1 (sound-side counts u c.requires.0 c.args.side).1 in
    sym (first-only (answers_to c.args.key) side _ no_slot one
    (omega (arith, side-slots c.args.state.now c.told-state c.args.side))
    (rw (← c.slot_of.ensures) (sym c.answers.ensures ∙ c.if-answers.true)))

pub returns-in-Some : goal.returns-in-Some
returns-in-Some c = sym c.in-Some.is ∙ ap (λ (r : Searched). r.found) c.search_side-found.ensures

pub returns-in_default : goal.returns-in_default
returns-in_default c = ap (λ (r : Searched). r.found) c.search_side-found.ensures
