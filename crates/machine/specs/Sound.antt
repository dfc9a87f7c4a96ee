-- Document 01, "Sound means": what it asks of the slots of one side.
-- Assumes nothing.
use Rattle.std.specs.Prelude.{List, Bool, not, cond, ◌&&◌, ◌||◌, eqb, ltb}
use Rattle.laws.specs.Tests.{all_of, pairwise}
use Rattle.machine.specs.Pages.{in_range, page_start}
use Rattle.machine.specs.Words.{word_sound}
use Rattle.machine.specs.Slots.{is_live, size_code, is_real, context_of, partition_of}
use Rattle.machine.specs.Insertion.{overlaps}
use Rattle.machine.specs.declared.Slot.{Slot}

-- whose the entry is: a partition below 8, and context 0 for a real one; a context has 13 bits by its place in the word
unfoldable pub owner_sound : Slot → Bool
owner_sound x = ltb (partition_of x) 8 && (not (is_real x) || eqb (context_of x) 0)

-- its page: a multiple of its size, and in range
unfoldable pub page_sound : Slot → Bool
page_sound x = in_range x.page && eqb (page_start (size_code x) x.page) x.page

-- a live entry: its word passes number 12; of the flags only lock and used bit are there
unfoldable pub live_sound : Slot → Bool
live_sound x = word_sound x.word && (owner_sound x && (page_sound x && ltb x.flags 4))

-- an empty slot: zeros
unfoldable pub empty_sound : Slot → Bool
empty_sound x = eqb x.owner 0 && (eqb x.page 0 && (eqb x.word 0 && eqb x.flags 0))

unfoldable pub slot_sound : Slot → Bool
slot_sound x = cond (is_live x) (live_sound x) (empty_sound x)

-- each slot is sound, and no two overlap
unfoldable pub side_sound : List Slot → Bool
side_sound s = all_of slot_sound s && pairwise overlaps s
