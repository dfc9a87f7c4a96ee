-- `search_count::fits` meets its contract, for either key.
use mathlib.Core.Path.{ap, sym}
use borrow.Author.Tests.{lt-ltb, le-ltb}
use Rattle.search_count.specs.Counted.{fits}
use Rattle.search_count.proofs.fits.Goals as goal

pub returns-then-partition-lt8 : goal.returns-then-partition-lt8
returns-then-partition-lt8 c = rw (c.in-Virtual.is, lt-ltb _ _ c.if-partition-lt8.true)

pub returns-else-partition-lt8 : goal.returns-else-partition-lt8
returns-else-partition-lt8 c = rw (c.in-Virtual.is, le-ltb _ _ c.if-partition-lt8.false)

pub returns-in-Real : goal.returns-in-Real
returns-in-Real c = ap fits (sym c.in-Real.is)
