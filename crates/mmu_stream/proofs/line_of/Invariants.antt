use Prim.Native.Nat.{ℕ, ◌*◌, ◌<◌}
use mathlib.Core.Path.{◌≡◌}
use lib.ListN.{length, get_or}
use Rattle.mmu_stream.specs.Line.{line_at}
use Rattle.mmu_stream.proofs.line_of.Given as goal

abbrev pub invariant-loop-i : goal.invariant-loop-i
invariant-loop-i l =
    (length l.line ≡ 49) × (get_or l.line 48 0 ≡ 10) × ((k : ℕ) → k < 2 * l.i → get_or l.line k 0 ≡ line_at l.answer 0 k)
