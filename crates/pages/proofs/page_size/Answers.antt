-- `pages::page_size` meets its contract: the bit does not leave the word.
use mathlib.Core.Path.{◌∙◌}
use native.Mathlib.Omega.{arith}
use lib.Dec.{lit<}
use lib.Pow.{shl_exact}
use Rattle.machine.specs.Pages.{page_shift}
use Rattle.machine.proofs.Pages.{shift_small}
use Rattle.pages.proofs.page_size.Goals as goal

pub overflow_shl-result : goal.overflow_shl-result
overflow_shl-result c = omega (arith, c.page_shift.ensures, shift_small c.args.code)

pub returns : goal.returns
returns c =
    let small = shift_small c.args.code in
    rw c.page_shift.ensures (shl_exact 1 (page_shift c.args.code) 64 (lit< tt) (omega arith) ∙ omega arith)
