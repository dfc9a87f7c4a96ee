use Prim.Native.Nat.{ℕ}
use mathlib.Core.Path.{◌≡◌}
use mathlib.Core.Bool.{Bool}
use mathlib.Core.List.{List}
use lib.ListN.{get_or}
use Rattle.laws.specs.Tests.{all_below}
use Rattle.machine.specs.Record.{Records, older_of, record_sound}
use Rattle.machine.specs.State.{state_in}
use Rattle.state.proofs.records_sound.Given as goal

-- record r of the words is sound
abbrev pub sound : List ℕ → ℕ → Bool
sound words r = let x : Records = (state_in words).records in record_sound (get_or x.seen r 0) (get_or x.newest r 0) (older_of x.older r)

abbrev pub invariant-loop-i : goal.invariant-loop-i
invariant-loop-i l = l.all ≡ all_below (sound l.state) l.i
