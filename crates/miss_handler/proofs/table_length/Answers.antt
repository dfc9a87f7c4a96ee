-- `miss_handler::table_length` meets its contract: 16 bytes for each entry.
use borrow.Author.Rules.{rules}
use Rattle.miss_handler.proofs.Misses.{table-small}
use Rattle.miss_handler.proofs.table_length.Goals as goal

pub overflow_mul-result : goal.overflow_mul-result
overflow_mul-result c = rw c.tsb_entries-entries.ensures (record { fits = table-small _ (search rules) })

pub returns : goal.returns
returns c = rw (c.tsb_entries-entries.ensures, c.table_n.ensures)
