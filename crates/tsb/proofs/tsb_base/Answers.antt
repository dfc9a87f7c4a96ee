-- `tsb::tsb_base` meets its contract: by the contracts of its calls.
use mathlib.Core.Path.{◌∙◌}
use Rattle.tsb.proofs.tsb_base.Goals as goal

pub returns : goal.returns
returns c = c.read_register.ensures.read ∙ rw (c.number.ensures.value, c.number-2.ensures.value, c.other_set-other.ensures.0, c.miss_context.ensures)
