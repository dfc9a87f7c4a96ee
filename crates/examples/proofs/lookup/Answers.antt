-- `examples::lookup` meets its contract: a slot that is found lies within the words.
use Rattle.std.proofs.Common.{◌≡◌, ℕ, ◌<◌, ◌&&◌, List, length, ap, sym, ◌∙◌, arith, Some, None}
use Rattle.laws.proofs.Bools.{by-test}
use Rattle.laws.proofs.Walks.{found_at}
use Rattle.machine.specs.Slots.{slots_of, no_slot, answers_to}
use Rattle.machine.specs.Sound.{side_sound}
use Rattle.machine.specs.declared.Key.{Key}
use Rattle.machine.specs.declared.Searched.{Searched}
use Rattle.machine.specs.declared.Slot.{Slot}
use Rattle.machine.proofs.Slots.{slots_length}
use Rattle.search_count.specs.Counted.{fits, searched_any}
use Rattle.examples.proofs.lookup.Goals as goal

-- a slot found is within: only a search finds any
inside : (key : Key) (s : List Slot) (i : ℕ) → (searched_any key s).found ≡ Some i → i < length s
unfolding searched_any
inside key s i e = by-test (fits key && side_sound s)
    (λ t. (found_at no_slot (answers_to key) s i (rw t at e)).0)
    (λ t. let n : None ≡ Some i = rw t at e in absurd (let z : ◌≡◌ {A = ℕ} 0 1 = cc in omega arith))

pub slot_at-requires : goal.slot_at-requires
slot_at-requires c =
    let s = slots_of c.args.slots.now in
    let found = ap (λ (r : Searched). r.found) (sym c.search_any.ensures) ∙ c.in-Some.is in
    omega (arith, slots_length c.args.slots.now, inside c.args.key s _ found)
