-- `tsb::miss_address` meets its contract: by the contracts of its calls.
use Rattle.tsb.proofs.miss_address.Goals as goal

pub returns : goal.returns
returns c = rw (c.tag_address.ensures, c.tag_of.ensures)
