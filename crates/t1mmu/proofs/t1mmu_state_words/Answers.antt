-- `t1mmu::t1mmu_state_words` meets its contract: both sides compute.
use mathlib.Core.Path.{refl}
use Rattle.machine.specs.Places.{side_words, row, reference_words}
use Rattle.t1mmu.proofs.t1mmu_state_words.Goals as goal

pub returns : goal.returns
unfolding side_words row reference_words
returns c =
    record {
      equal = refl;
      told = refl;
    }
