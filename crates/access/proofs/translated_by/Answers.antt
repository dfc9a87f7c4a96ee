-- `access::translated_by` meets its contract.
use Rattle.access.proofs.translated_by.Goals as goal

pub returns : goal.returns
returns c = rw (c.physical_address.ensures, c.bit_of.ensures, c.bit_of-2.ensures, c.bit_of-3.ensures)
