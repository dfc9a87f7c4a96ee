-- `miss_handler::table_n` meets its contract.
use Prim.Native.Nat.{ℕ, ◌%◌}
use mathlib.Core.Path.{ap}
use Rattle.miss_handler.proofs.table_n.Goals as goal

pub returns : goal.returns
returns c = ap (λ (base : ℕ). base % 16) (rw c.at.ensures at c.tsb_base.ensures)
