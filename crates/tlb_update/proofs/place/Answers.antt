-- `tlb_update::place` meets its contract, for each choice.
use Rattle.std.proofs.Common.{Some, Ok}
use Prim.Native.Nat.{ℕ, ◌*◌, ◌+◌, ◌≤◌, ◌<◌}
use mathlib.Core.Path.{◌≡◌, refl, ap, sym, ◌∙◌}
use mathlib.Core.List.{List}
use native.Mathlib.Omega.{arith}
use lib.ListN.{length}
use Rattle.machine.specs.Slots.{slots_of, with_slot, clear_used}
use Rattle.machine.specs.declared.Choice.{Choice}
use Rattle.machine.specs.Insertion.{candidate, choice}
use Rattle.machine.proofs.Slots.{slots_length, words_back, store_words, store-slots}
use Rattle.machine.proofs.Insertion.{Chosen, choice-says}
use Rattle.tlb_update.proofs.place.Goals as goal

-- a slot lies within the words
within : (l : List ℕ) (i : ℕ) → i < length (slots_of l) → i * 4 + 4 ≤ length l
within l i h = omega (arith, slots_length l)

-- the choice is what it is called
says : (l : List ℕ) {chosen : Choice} → chosen ≡ choice candidate (slots_of l) → Chosen candidate (slots_of l) chosen
says l e = rw e (choice-says candidate (slots_of l))

pub store_slot-requires : goal.store_slot-requires
store_slot-requires c = within _ _ (rw c.in-Empty.is at (says _ c.requires.1)).0

pub displace-requires : goal.displace-requires
displace-requires c = within _ _ (rw c.in-Unused.is at (says _ c.requires.1)).1

pub slot_at-old-requires : goal.slot_at-old-requires
slot_at-old-requires c = within _ _ (rw c.in-Cleared.is at (says _ c.requires.1)).2

pub store_slot-requires-in-Cleared : goal.store_slot-requires-in-Cleared
store_slot-requires-in-Cleared c =
    let w = within _ _ (rw c.in-Cleared.is at (says _ c.requires.1)).2 in
    omega (arith, w)

pub returns-in-Empty : goal.returns-in-Empty
returns-in-Empty c =
    rw c.in-Empty.is (record { words = c.store_slot.ensures ∙ store-slots c.args.slots.now _ c.args.new c.requires.0; placed = refl })

pub returns-in-Unused : goal.returns-in-Unused
returns-in-Unused c =
    let d = c.displace.ensures in
    rw c.in-Unused.is (record { words = d.words ∙ store-slots c.args.slots.now _ c.args.new c.requires.0; placed = ap (λ x. Ok (Some x)) d.old })

pub returns-in-Cleared : goal.returns-in-Cleared
returns-in-Cleared c =
    let x = c.args.new in
    let i = c.in-Cleared.i in
    rw c.in-Cleared.is (record {
      words = c.store_slot-in-Cleared.ensures
          ∙ ap (λ (w : List ℕ). with_slot w i x) c.clear_used.ensures
          ∙ store_words (clear_used (slots_of c.args.slots.now)) i x;
      placed = ap (λ x. Ok (Some x)) c.slot_at-old.ensures;
    })

pub returns-in-Full : goal.returns-in-Full
returns-in-Full c = rw c.in-Full.is (record { words = sym (words_back c.args.slots.now c.requires.0); placed = refl })
