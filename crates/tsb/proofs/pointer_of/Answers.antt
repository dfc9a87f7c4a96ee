-- `tsb::pointer_of` meets its contract: by the contracts of its calls.
use mathlib.Core.Path.{◌∙◌}
use Rattle.tsb.proofs.pointer_of.Goals as goal

pub returns : goal.returns
returns c = c.tsb_pointer.ensures ∙ rw (c.miss_address.ensures, c.tsb_code-code.ensures, c.tsb_base-base.ensures)
