-- What the walk for overlap is told of the slots. None of this is in what `side_sound` promises.
-- Assumes nothing.
use Rattle.std.specs.Prelude.{◌≡◌, ℕ, true, List, map}
use Rattle.laws.specs.Tests.{all_of}
use Rattle.machine.specs.Slots.{slots_of, is_live}
use Rattle.machine.specs.Sound.{slot_sound}
use Rattle.machine.specs.declared.Slot.{Slot}
use Rattle.tlb.specs.Rows.{row_slot}

abbrev pub LiveSound : Slot → Type 0
LiveSound x = (is_live x ≡ true) × (slot_sound x ≡ true)

abbrev pub SlotsSound : List ℕ → Type 0
SlotsSound words = all_of slot_sound (slots_of words) ≡ true

abbrev pub RowsSound : List (List ℕ) → Type 0
RowsSound rows = all_of slot_sound (map row_slot rows) ≡ true
