-- `tlb::starts` meets its contract.
use Rattle.std.proofs.Common.{rules, ◌*◌, ◌/◌}
use Rattle.tlb.specs.Tables.{starts_of}
use Rattle.tlb.proofs.starts.Goals as goal

pub returns : goal.returns
unfolding starts_of
returns c = c.by_code.ensures (λ n. c.args.address / n * n) (search rules)
