-- `tsb::tsb_code` meets its contract: by the contracts of its calls.
use mathlib.Core.Path.{◌∙◌}
use Rattle.tsb.proofs.tsb_code.Goals as goal

pub returns : goal.returns
returns c =
    c.size_code.ensures ∙ rw (
      c.read_register.ensures.read,
      c.number.ensures.value,
      c.other_set-other.ensures.0,
      c.miss_context.ensures,
    )
