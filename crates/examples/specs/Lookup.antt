-- What a lookup shows of the slots. Assumes nothing.
use Rattle.std.specs.Prelude.{ℕ, List, get_or, Some, None, Option}
use Rattle.machine.specs.Slots.{no_slot}
use Rattle.machine.specs.declared.Slot.{Slot}

-- the slot found, or an empty one
abbrev pub found_slot : List Slot → Option ℕ → Slot
found_slot s (Some i) = get_or s i no_slot
found_slot s None = no_slot
