-- `pages::page_offset` meets its contract: the offset is the address's bits below the page's start.
use lib.Bits.{and_mask}
use Rattle.machine.specs.Pages.{page_shift}
use Rattle.pages.proofs.page_offset.Goals as goal

pub returns : goal.returns
returns c = rw c.page_mask.ensures (and_mask c.args.address (page_shift c.args.code))
