-- `miss_handler::entry_of` meets its contract: the 16 bytes lie within the table used.
use Prim.Native.Nat.{ℕ, ◌+◌, ◌-◌, ◌≤◌}
use mathlib.Core.Path.{◌≡◌}
use mathlib.Core.List.{List}
use native.Mathlib.Omega.{arith}
use lib.ListN.{length, length-take, length-drop}
use Rattle.machine.specs.State.{state_in}
use Rattle.machine.specs.Stream.{Bytes}
use Rattle.machine.specs.Serve.{table_used, entry_start}
use Rattle.miss_handler.specs.Ready.{Ready}
use Rattle.miss_handler.proofs.Misses.{entry_in-table}
use Rattle.miss_handler.proofs.entry_of.Goals as goal

within : (words : List ℕ) (strand side : ℕ) (zero other : Bytes) {table : Bytes} {start : ℕ} → Ready words strand side zero other
    → table ≡ table_used (state_in words).registers strand side zero other → start ≡ entry_start (state_in words).registers strand side
    → start + 16 ≤ length table
within words strand side zero other r p q = rw (q, p) (entry_in-table words strand side zero other r)

pub overflow_add-end : goal.overflow_add-end
overflow_add-end c = omega (arith, within _ _ _ _ _ c.requires c.table_used-table.ensures c.entry_start-start.ensures)

pub slice_bounds-result-end : goal.slice_bounds-result-end
slice_bounds-result-end c = omega (arith, within _ _ _ _ _ c.requires c.table_used-table.ensures c.entry_start-start.ensures)

pub returns : goal.returns
returns c =
    let k : c.entry_start-start.result + 16 - c.entry_start-start.result ≡ 16 = omega arith in
    let w = within _ _ _ _ _ c.requires c.table_used-table.ensures c.entry_start-start.ensures in
    record {
      bytes = rw (k, c.entry_start-start.ensures, c.table_used-table.ensures);
      count = simp (length-take, length-drop) (omega (arith, w));
    }
