-- `tsb::miss_context` meets its contract: by the contracts of its calls.
use mathlib.Core.Path.{◌∙◌}
use Rattle.tsb.proofs.miss_context.Goals as goal

pub returns : goal.returns
returns c = c.tag_context.ensures ∙ rw c.tag_of.ensures
