-- `access::access_of` meets its contract: by the contracts of its calls.
use Rattle.access.proofs.access_of.Goals as goal

pub returns : goal.returns
returns c = rw (c.access_side.ensures, c.used_address-used.ensures)
