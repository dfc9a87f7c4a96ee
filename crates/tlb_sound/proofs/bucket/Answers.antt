-- `tlb_sound::bucket` meets its contract.
use Rattle.std.proofs.Common.{refl}
use Rattle.tlb_sound.specs.Buckets.{bucket_of}
use Rattle.tlb_sound.proofs.bucket.Goals as goal

pub returns : goal.returns
unfolding bucket_of
returns c = refl
