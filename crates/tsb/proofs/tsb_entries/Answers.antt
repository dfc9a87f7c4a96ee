-- `tsb::tsb_entries` meets its contract: nothing is shifted out.
use Rattle.tsb.proofs.Sizes.{tsb_entries_lem}
use Rattle.tsb.proofs.tsb_entries.Goals as goal

pub returns : goal.returns
returns c = tsb_entries_lem c.args.n c.requires
