-- The loop's invariant of `stream::run`: the words are those of a sound state, and the commands yet to be taken, from that state, the output and
-- the position as they are, make the whole run's outcome (`resume`). Of the hints nothing is said. The measure is what is left of the input.
-- Assumes nothing.
use Rattle.std.proofs.Common.{◌≡◌, ℕ, ◌*◌, ◌-◌, ◌≤◌, Bool, true, List, length}
use Rattle.machine.specs.State.{counts, state_length, state_in}
use Rattle.machine.specs.State as state
use Rattle.machine.specs.Stream.{run_of}
use Rattle.machine.proofs.Runs.{resume}
use Rattle.stream.proofs.run.Given as goal

pub record Going (hv : Bool) (state₀ input output₀ words output : List ℕ) (at answered : ℕ) : Type 0 where
  pub inside : at ≤ length input
  pub size : length words ≡ state_length
  pub sound : state.sound counts (state_in words) ≡ true
  pub room : length output ≡ length output₀
  pub fits : answered * 24 ≤ length output
  pub rest : resume hv (state_in words) input output answered at ≡ run_of hv counts state₀ input output₀

abbrev pub invariant-loop-at : goal.invariant-loop-at
invariant-loop-at l = Going l.hypervisor l.fn.state l.input l.initial.output l.words l.output l.at l.answered

abbrev pub decreases-loop-at : goal.decreases-loop-at
decreases-loop-at l = length l.input - l.at
