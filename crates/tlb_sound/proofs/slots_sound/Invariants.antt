use Rattle.std.proofs.Common.{◌≡◌, drop}
use Rattle.laws.specs.Tests.{all_of}
use Rattle.machine.specs.Slots.{slots_of}
use Rattle.machine.specs.Sound.{slot_sound}
use Rattle.tlb_sound.proofs.slots_sound.Given as goal

abbrev pub invariant-loop-row : goal.invariant-loop-row
invariant-loop-row l = all_of slot_sound (slots_of l.slots) ≡ all_of slot_sound (drop l.row-index (slots_of l.slots))
