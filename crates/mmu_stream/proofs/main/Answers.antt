-- `mmu_stream::main` meets its contract: the answers lie within the output, by what `run` ensures.
use mathlib.Core.Path.{sym}
use native.Mathlib.Omega.{arith}
use lib.Seq.{length-take-le}
use Rattle.mmu_stream.proofs.Laws.{answers-fit}
use Rattle.mmu_stream.proofs.main.Goals as goal

pub slice_bounds-print_run-end : goal.slice_bounds-print_run-end
slice_bounds-print_run-end c =
    let r = c.run-ran in
    sym (length-take-le _ _ (omega (arith, answers-fit _ _ _ _ _ _ r.result r.ensures r.auto.output, c.as_chunks.ensures.front_len)))
