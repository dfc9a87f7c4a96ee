-- `miss_handler::entry_start` meets its contract: by the contracts of its calls.
use mathlib.Core.Path.{◌∙◌}
use Rattle.miss_handler.proofs.entry_start.Goals as goal

pub returns : goal.returns
returns c = c.offset_in_tsb.ensures ∙ rw (c.miss_address-address.ensures, c.tsb_code-code.ensures, c.at.ensures, c.table_n-n.ensures)
