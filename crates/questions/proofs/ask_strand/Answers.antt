-- `questions::ask_strand` meets its contract.
use mathlib.Core.Path.{◌∙◌}
use Rattle.questions.proofs.Asks.{asked-below}
use Rattle.questions.proofs.ask_strand.Goals as goal

pub returns : goal.returns
returns c = c.ok_or.ensures.value ∙ asked-below _ c.args.strand 4 _ c.new.ensures
