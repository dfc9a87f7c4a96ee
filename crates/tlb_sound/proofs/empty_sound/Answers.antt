-- `tlb_sound::empty_sound` meets its contract.
use Rattle.std.proofs.Common.{◌∙◌}
use Rattle.machine.specs.Sound.{empty_sound}
use Rattle.tlb_sound.proofs.empty_sound.Goals as goal

pub returns : goal.returns
unfolding empty_sound
returns c = let d = c.default.ensures in c.eq.ensures ∙ rw (d.0, d.1.0, d.1.1.0, d.1.1.1)
