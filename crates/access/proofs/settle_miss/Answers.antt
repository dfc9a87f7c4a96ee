-- `access::settle_miss` meets its contract.
use Rattle.access.proofs.settle_miss.Goals as goal

pub returns : goal.returns
returns c = rw (← c.miss_of-trap.ensures.trap) c.take_tagged.ensures
