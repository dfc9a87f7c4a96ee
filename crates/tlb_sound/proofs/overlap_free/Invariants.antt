use Rattle.std.proofs.Common.{◌≡◌, true, length, drop}
use Rattle.laws.specs.Tests.{pairwise}
use Rattle.machine.specs.Slots.{slots_of}
use Rattle.machine.specs.Insertion.{overlaps}
use Rattle.tlb_sound.proofs.Buckets.{Marked}
use Rattle.tlb_sound.proofs.overlap_free.Given as goal

abbrev pub invariant-loop-i : goal.invariant-loop-i
invariant-loop-i l = (length l.seen ≡ 1024) × (pairwise overlaps (drop l.i (slots_of l.slots)) ≡ true)
    × Marked l.most l.seen l.mark (drop l.i (slots_of l.slots))
