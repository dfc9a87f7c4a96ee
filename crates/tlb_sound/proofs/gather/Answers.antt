-- `tlb_sound::gather` meets its contract.
use Rattle.std.proofs.Common.{◌^◌, arith, lt-ltb}
use Rattle.tlb_sound.specs.Digests.{reach}
use Rattle.tlb_sound.proofs.gather.Goals as goal

pub returns : goal.returns
unfolding reach
returns c = rw (lt-ltb c.args.x.page (2 ^ 64) (omega arith))
