-- `access::settle_hit` meets its contract.
use Prim.Native.Nat.{ℕ}
use mathlib.Core.List.{List}
use mathlib.Core.Path.{◌≡◌, sym, ◌∙◌}
use lib.ListN.{length-set, get_or}
use Rattle.machine.specs.Access.{judge}
use Rattle.machine.specs.Slots.{no_slot, key_address, within, page_match, set_used}
use Rattle.machine.specs.State.{counts, State, state_in, side_of, with_side, encode}
use Rattle.machine.specs.declared.Slot.{Slot}
use Rattle.state.proofs.Lent.{Lent}
use Rattle.state.proofs.Parts.{sized-words, sized-side, sized-with_side}
use Rattle.access.proofs.Laws.{left_back}
use Rattle.access.proofs.settle_hit.Goals as goal

-- the state with the found entry marked
marked : (words : List ℕ) (side i : ℕ) {left : List ℕ} → Lent words
    → (let u = state_in words in
    left ≡ encode (with_side u side (set_used i (side_of u side))) → state_in left ≡ with_side u side (set_used i (side_of u side)))
marked words side i h e =
    let u : State = state_in words in
    let z = sized-words counts words h in
    let l = length-set (side_of u side) i _ ∙ sized-side counts u z side in
    left_back (sized-with_side counts u z side _ l) e

pub reach_of-reach-requires : goal.reach_of-reach-requires
reach_of-reach-requires c = rw (c.slot_of-x.ensures, c.key_address.ensures) c.requires.2

pub take_tagged-requires : goal.take_tagged-requires
take_tagged-requires c =
    let back = marked c.args.state.now c.args.a.side c.args.i c.told-state c.mark_used.ensures in
    (rw c.in-Err.is at c.judge_word-judged.ensures.fits, rw back c.requires.1)

pub translated_by-requires : goal.translated_by-requires
translated_by-requires c = c.reach_of-reach.ensures.small

pub returns-in-Err : goal.returns-in-Err
returns-in-Err c =
    -- the found slot
    let slot : Slot = get_or (side_of (state_in c.args.state.now) c.args.a.side) c.args.i no_slot in
    -- the one match
    let matched : page_match slot (key_address c.args.key) ≡ within c.reach_of-reach.result =
    rw (c.slot_of-x.ensures, c.key_address.ensures) at c.reach_of-reach.ensures.matched in
    -- what the found entry's word says
    let verdict : judge (state_in c.args.state.now).registers c.args.a slot.word ≡ c.judge_word-judged.result =
    sym (c.judge_word-judged.ensures.judged ∙ rw c.slot_of-x.ensures) in
    let back = marked c.args.state.now c.args.a.side c.args.i c.told-state c.mark_used.ensures in
    rw (matched, verdict ∙ c.in-Err.is) (rw back at c.take_tagged.ensures)

pub returns-in-Ok : goal.returns-in-Ok
returns-in-Ok c =
    let slot : Slot = get_or (side_of (state_in c.args.state.now) c.args.a.side) c.args.i no_slot in
    let matched : page_match slot (key_address c.args.key) ≡ within c.reach_of-reach.result =
    rw (c.slot_of-x.ensures, c.key_address.ensures) at c.reach_of-reach.ensures.matched in
    let verdict : judge (state_in c.args.state.now).registers c.args.a slot.word ≡ c.judge_word-judged.result =
    sym (c.judge_word-judged.ensures.judged ∙ rw c.slot_of-x.ensures) in
    rw (matched, verdict ∙ c.in-Ok.is)
    (record { words = c.mark_used.ensures; answer = rw (c.translated_by.ensures, c.slot_of-x.ensures) })
