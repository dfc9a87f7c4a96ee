-- `operands::entry_for` meets its contract: by the contracts of its calls.
use mathlib.Core.Path.{◌∙◌}
use Rattle.operands.proofs.entry_for.Goals as goal

pub returns : goal.returns
returns c =
    c.new_entry.ensures ∙ rw (
      c.key_for-key.ensures,
      c.flag_locked.ensures,
      c.tag_address.ensures,
      c.tag_context.ensures,
      c.flag_real.ensures,
      c.read_register-partition.ensures.read,
      c.tag_of-tag.ensures,
    )
