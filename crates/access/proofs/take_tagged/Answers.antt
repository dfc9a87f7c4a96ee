-- `access::take_tagged` meets its contract.
use Rattle.access.proofs.take_tagged.Goals as goal

pub returns : goal.returns
returns c = rw (← c.tag_written-tag.ensures.tag) c.take_trap.ensures
