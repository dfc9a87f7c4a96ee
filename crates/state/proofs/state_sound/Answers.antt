-- `state::state_sound` meets its contract: part by part.
use mathlib.Core.Path.{sym}
use borrow.Author.Tests.{ne_eqb}
use Rattle.machine.specs.State.{words_sound}
use Rattle.state.proofs.Lent.{lent-sound}
use Rattle.state.proofs.state_sound.Goals as goal

pub returns-in_default : goal.returns-in_default
unfolding words_sound
returns-in_default c = rw (ne_eqb _ _ c.in_default.ensures.cases)

pub returns : goal.returns
returns c =
    rw (c.file_sound.ensures, c.side_sound.ensures, c.side_sound-2.ensures, c.records_sound.ensures, c.in-Some.ensures.cases.same)
    (sym (lent-sound _ c.in-Some.ensures.cases.long))
