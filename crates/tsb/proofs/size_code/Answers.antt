-- `tsb::size_code` meets its contract.
use mathlib.Core.Path.{◌≡◌, sym, ◌∙◌}
use native.Mathlib.Omega.{arith}
use Rattle.tsb.proofs.size_code.Goals as goal

pub returns-then-number-eq0 : goal.returns-then-number-eq0
returns-then-number-eq0 c = rw (sym c.number.ensures.value ∙ c.if-number-eq0.true) (omega arith)

pub returns : goal.returns
returns c =
    let one : c.args.size ≡ 1 = omega (arith, c.number.ensures.value, c.number.ensures.small, c.if-number-eq0.false) in rw one (omega arith)
