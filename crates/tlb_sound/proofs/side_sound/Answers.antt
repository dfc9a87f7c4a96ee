-- `tlb_sound::side_sound` meets its contract.
use Rattle.std.proofs.Common.{◌≡◌, ◌/◌, ◌^◌, true, sym, ap, ◌∙◌, eq-eqb}
use Rattle.laws.specs.Tests.{all_of}
use Rattle.machine.specs.Slots.{slots_of}
use Rattle.machine.specs.Sound.{slot_sound, side_sound}
use Rattle.tlb_sound.proofs.Digests.{none-overlap, largest-bound}
use Rattle.tlb_sound.proofs.side_sound.Goals as goal

pub returns-else-slots_sound : goal.returns-else-slots_sound
unfolding side_sound
returns-else-slots_sound c = rw (sym c.slots_sound.ensures ∙ c.if-slots_sound.false) c.if-slots_sound.false

pub returns-then-d-eq0 : goal.returns-then-d-eq0
unfolding side_sound
returns-then-d-eq0 c =
    -- each slot is sound by itself
    let sound : all_of slot_sound (slots_of c.args.slots.now) ≡ true = sym c.slots_sound.ensures ∙ c.if-slots_sound.true in
    rw (sound, eq-eqb _ _ c.if-d-eq0.true) (sym (none-overlap _ (ap (λ e. e.words / 2 ^ 63) (sym c.digest_of-d.ensures) ∙ c.if-d-eq0.true)))

pub overlap_free-requires : goal.overlap_free-requires
overlap_free-requires c =
    let sound : all_of slot_sound (slots_of c.args.slots.now) ≡ true = sym c.slots_sound.ensures ∙ c.if-slots_sound.true in
    (sound, rw c.digest_of-d.ensures (largest-bound _), c.requires)

pub returns-else-d-eq0 : goal.returns-else-d-eq0
unfolding side_sound
returns-else-d-eq0 c =
    let sound : all_of slot_sound (slots_of c.args.slots.now) ≡ true = sym c.slots_sound.ensures ∙ c.if-slots_sound.true in
    c.overlap_free.ensures ∙ rw sound
