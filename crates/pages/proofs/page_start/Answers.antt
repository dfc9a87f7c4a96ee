-- `pages::page_start` meets its contract: an address is its page's start and the offset.
use native.Mathlib.Omega.{arith}
use lib.Pow.{split}
use Rattle.machine.specs.Pages.{page_shift}
use Rattle.pages.proofs.page_start.Goals as goal

pub overflow_sub-result : goal.overflow_sub-result
overflow_sub-result c = omega (arith, c.page_offset.ensures, split c.args.address (page_shift c.args.code))

pub returns : goal.returns
returns c = omega (arith, c.page_offset.ensures, split c.args.address (page_shift c.args.code))
