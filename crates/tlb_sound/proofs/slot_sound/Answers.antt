-- `tlb_sound::slot_sound` meets its contract.
use Rattle.std.proofs.Common.{sym, ◌∙◌}
use Rattle.machine.specs.Sound.{slot_sound}
use Rattle.tlb_sound.proofs.slot_sound.Goals as goal

pub returns-then-is_live : goal.returns-then-is_live
unfolding slot_sound
returns-then-is_live c = c.live_sound.ensures ∙ rw (sym c.is_live.ensures ∙ c.if-is_live.true)

pub returns-else-is_live : goal.returns-else-is_live
unfolding slot_sound
returns-else-is_live c = c.empty_sound.ensures ∙ rw (sym c.is_live.ensures ∙ c.if-is_live.false)
