use Prim.Native.Nat.{◌+◌, ◌*◌}
use mathlib.Core.Path.{◌≡◌}
use mathlib.Core.Bool.{◌||◌}
use lib.Dec.{eqb, ltb}
use lib.ListN.{get_or}
use Rattle.laws.specs.Tests.{all_below}
use Rattle.miss_record.proofs.clear_from.Given as goal

abbrev pub invariant-loop-i : goal.invariant-loop-i
invariant-loop-i l =
    eqb l.unused 0 ≡ all_below (λ j. ltb j l.from || (ltb (64 * (j + 1)) l.seen || eqb (get_or l.older j 0) 0)) l.i
