-- `access::translation_on` meets its contract.
use Rattle.access.proofs.translation_on.Goals as goal

pub returns : goal.returns
returns c = record {
  on = rw (c.bit_of.ensures, c.number.ensures.value, c.read_register-enables.ensures.read);
  small = c.read_register-enables.ensures.small;
}
