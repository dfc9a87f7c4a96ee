-- `tlb::spans` meets its contract.
use Rattle.std.proofs.Common.{rules, max}
use Rattle.tlb.specs.Tables.{spans_of}
use Rattle.tlb.proofs.spans.Goals as goal

pub returns : goal.returns
unfolding spans_of
returns c = c.by_code.ensures (max c.args.size) (search rules)
