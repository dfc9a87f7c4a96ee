-- `miss_handler::tag_fits` meets its contract: the first test that fails decides.
use Prim.Native.Nat.{◌/◌, ◌^◌}
use mathlib.Core.Path.{◌≡◌}
use mathlib.Core.Bool.{true, false}
use borrow.Author.Tests.{eq-eqb, ne_eqb}
use lib.Dec.{eqb}
use Rattle.machine.specs.Words.{bits}
use Rattle.machine.specs.Serve.{tag_fits}
use Rattle.miss_handler.proofs.tag_fits.Goals as goal

pub returns-then-tag-eq0 : goal.returns-then-tag-eq0
unfolding tag_fits
returns-then-tag-eq0 c =
    let same : eqb (c.args.tag / 2 ^ 48) c.args.context ≡ true = eq-eqb _ _ c.if-tag-context.true in
    let clear : eqb (bits 42 6 c.args.tag) 0 ≡ true = eq-eqb _ _ c.if-tag-eq0.true in
    rw (same, clear) c.address_fits.ensures

pub returns-else-tag-eq0 : goal.returns-else-tag-eq0
unfolding tag_fits
returns-else-tag-eq0 c =
    let same : eqb (c.args.tag / 2 ^ 48) c.args.context ≡ true = eq-eqb _ _ c.if-tag-context.true in
    let stray : eqb (bits 42 6 c.args.tag) 0 ≡ false = ne_eqb _ _ c.if-tag-eq0.false in
    rw (same, stray)

pub returns-else-tag-context : goal.returns-else-tag-context
unfolding tag_fits
returns-else-tag-context c = rw (ne_eqb _ _ c.if-tag-context.false)
