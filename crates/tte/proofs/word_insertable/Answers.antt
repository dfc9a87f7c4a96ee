-- `tte::word_insertable` meets its contract.
use mathlib.Core.Path.{sym, ◌∙◌}
use Rattle.machine.specs.Words.{word_insertable}
use Rattle.machine.proofs.Words.{insertable-sound}
use Rattle.tte.proofs.word_insertable.Goals as goal

pub returns : goal.returns
unfolding word_insertable
returns c =
    let same = c.word_sound.ensures in record {
      insertable = same;
      sound = λ h. insertable-sound _ (sym same ∙ h);
    }
