-- A search of any slots for any key: one that the unit's own search does not take finds nothing and compares nothing.
-- Assumes nothing.
use Rattle.std.specs.Prelude.{◌^◌, Bool, cond, ◌&&◌, List, ltb, length, None, unwrap_or}
use Rattle.machine.specs.Slots.{searched}
use Rattle.machine.specs.Sound.{side_sound}
use Rattle.machine.specs.declared.Key.{Key}
use Rattle.machine.specs.declared.Key.TheVariants.{Virtual, Real}
use Rattle.machine.specs.declared.Searched.{Searched}
use Rattle.machine.specs.declared.Slot.{Slot}
use Rattle.search_count.specs.declared.Counted.{Counted}

-- `KeyFits`, tested
abbrev pub fits : Key → Bool
fits (Virtual partition context address) = ltb partition 8 && ltb context (2 ^ 13)
fits (Real partition address) = ltb partition 8

unfoldable pub searched_any : Key → List Slot → Searched
searched_any key s = cond (fits key && side_sound s) (searched key s) (record { found = None; compared = 0 })

-- the slot found, or the number of slots; and how many pages were compared
abbrev pub counted_of : Key → List Slot → Counted
counted_of key s = record { slot = unwrap_or (searched_any key s).found (length s); compared = (searched_any key s).compared }
