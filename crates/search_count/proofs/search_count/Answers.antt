-- `search_count::search_count` meets its contract.
use Rattle.machine.proofs.Slots.{slots_length}
use Rattle.search_count.proofs.search_count.Goals as goal

pub returns : goal.returns
returns c = rw (c.unwrap_or-slot.ensures, ← c.key_for-key.ensures, ← c.search_any-searched.ensures, slots_length c.args.slots.now)
