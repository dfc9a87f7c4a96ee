-- Rows of sound slots. Assumes nothing.
use Rattle.std.proofs.Common.{◌≡◌, ℕ, zero, suc, ◌<◌, true, List, [], ◌∷◌, map, drop, length, get_or, sym, ap, ◌∙◌}
use Rattle.laws.specs.Tests.{all_of}
use Rattle.laws.proofs.Alls.{all-get}
use Rattle.laws.proofs.Bools.{and_right}
use Rattle.machine.specs.declared.Slot.{Slot}
use Rattle.machine.specs.Slots.{no_slot}
use Rattle.machine.specs.Sound.{slot_sound}
use Rattle.machine.proofs.Sound.{no_slot-sound}
use Rattle.tlb.specs.Rows.{row_slot}
use Rattle.tlb.proofs.ByRow.{row_is}

-- each row's slot is sound
pub sound_row : (rows : List (List ℕ)) (k : ℕ) (d : List ℕ) → k < length rows → all_of slot_sound (map row_slot rows) ≡ true → slot_sound (row_slot (get_or rows k d)) ≡ true
sound_row rows k d b h = ap slot_sound (sym (row_is rows k d b)) ∙ all-get slot_sound no_slot (map row_slot rows) k no_slot-sound h

-- of sound slots those from one on
pub sound_behind : (s : List Slot) (i : ℕ) → all_of slot_sound s ≡ true → all_of slot_sound (drop i s) ≡ true
unfolding all_of
sound_behind s zero h = h
sound_behind [] (suc i) h = h
sound_behind (x ∷ r) (suc i) h = sound_behind r i (and_right (slot_sound x) _ h)
