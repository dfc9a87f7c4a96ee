-- `tlb::search` meets its contract: on sound slots, to answer by owner word and starts is to answer to the key.
use mathlib.Core.Path.{◌≡◌, ap₂, ◌∙◌}
use mathlib.Core.Bool.{true}
use mathlib.Core.List.{List}
use Rattle.laws.proofs.Bools.{and_left}
use Rattle.laws.specs.Tests.{all_of}
use Rattle.laws.proofs.Finds.{first-where, upto-where}
use Rattle.machine.specs.Slots.{slots_of}
use Rattle.machine.specs.Sound.{slot_sound, side_sound}
use Rattle.machine.specs.declared.Slot.{Slot}
use Rattle.tlb.proofs.Asked.{compared-asked, asked}
use Rattle.tlb.proofs.search.Goals as goal

pub returns : goal.returns
unfolding side_sound
returns c =
    let key = c.args.key in
    let s : List Slot = slots_of c.args.slots.now in
    let sound : all_of slot_sound s ≡ true = and_left _ _ c.requires.0 in
    let f = c.requires.1 in
    c.search_starts.ensures ∙
    rw (c.key_owner.ensures, c.starts-start.ensures, c.key_address.ensures)
    (ap₂ (λ a b. record { found = a; compared = b }) (first-where slot_sound _ _ (asked key f) s sound)
    (upto-where slot_sound _ _ (asked key f) _ _ (compared-asked key f) s sound))
