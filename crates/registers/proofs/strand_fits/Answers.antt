-- `registers::strand_fits` meets its contract: range by range. Two ranges are told by their cells, so that a wrong range shows as one.
use Rattle.std.proofs.Common.{◌≡◌, ◌&&◌, length, ◌∙◌, arith}
use Rattle.registers.proofs.Ranges.{part, strand-fits}
use Rattle.registers.proofs.strand_fits.Goals as goal
use Rattle.registers.proofs.strand_fits.Goals.{then-cells_fit-2, else-cells_fit-2}

pub returns-then-cells_fit-9 : goal.returns-then-cells_fit-9
returns-then-cells_fit-9 c =
    let long : length c.args.cells.now ≡ 32 = omega arith in
    let last : c.cells_fit-then-cells_fit-9.result ≡ part c.args.cells.now long 26 6 = c.cells_fit-then-cells_fit-9.ensures in
    rw (strand-fits c.args.cells.now long, last) (grind arith)

pub returns-else-cells_fit-9 : goal.returns-else-cells_fit-9
returns-else-cells_fit-9 c =
    let long : length c.args.cells.now ≡ 32 = omega arith in
    let third : c.if-cells_fit-2.value ≡ (c.if-cells_fit.value && part c.args.cells.now long 3 1) = elim c.if-cells_fit-2.branch [
      | then-cells_fit-2 w ↦
          let own : w.cells_fit-then-cells_fit-2.result ≡ part c.args.cells.now long 3 1 = w.cells_fit-then-cells_fit-2.ensures in
          w.value-is ∙ own ∙ rw w.if-cells_fit-2.true
      | else-cells_fit-2 w ↦ w.value-is ∙ rw w.if-cells_fit-2.false
    ] in
    rw (strand-fits c.args.cells.now long) (grind arith)
