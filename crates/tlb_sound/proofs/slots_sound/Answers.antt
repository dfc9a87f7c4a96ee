-- `tlb_sound::slots_sound` meets its contract. The invariant: all slots are sound exactly where those from the row on are.
use Rattle.std.proofs.Common.{◌≡◌, true, false, sym, ap, ◌∙◌, arith}
use Rattle.laws.specs.Tests.{all_of}
use Rattle.laws.proofs.Alls.{all-get}
use Rattle.laws.proofs.Bools.{by-test, clash}
use Rattle.machine.specs.Slots.{slots_of, no_slot}
use Rattle.machine.specs.Sound.{slot_sound}
use Rattle.laws.proofs.Walks.{all-fail, all_pass, all_end}
use Rattle.machine.proofs.Slots.{slots_length}
use Rattle.tlb.proofs.ByRow.{row-get, rows_length}
use Rattle.tlb_sound.specs.Digests.{digest_one, digest_of, fields_fit, plain}
use Rattle.tlb_sound.proofs.Digests.{empty-fits, side_fits_lem, fits_all, plain-side}
use Rattle.tlb_sound.proofs.slots_sound.Goals as goal

pub returns-then-not-fields_fit : goal.returns-then-not-fields_fit
returns-then-not-fields_fit c =
    let slots = slots_of c.args.slots.now in
    let no : fields_fit (digest_of slots) ≡ false = ap fields_fit (sym c.requires) ∙ sym c.fields_fit.ensures ∙ c.if-not-fields_fit.true in
    by-test (all_of slot_sound slots) (λ t. clash (side_fits_lem slots t) no) sym

pub returns-then-all_plain : goal.returns-then-all_plain
returns-then-all_plain c =
    -- the fields of every slot fit
    let fitting : fields_fit (digest_of (slots_of c.args.slots.now)) ≡ true = ap fields_fit (sym c.requires) ∙ sym c.fields_fit.ensures ∙ c.if-not-fields_fit.false in
    sym (plain-side (slots_of c.args.slots.now) fitting (ap plain (sym c.requires) ∙ sym c.all_plain.ensures ∙ c.if-all_plain.true))

pub slot_sound-requires : goal.slot_sound-requires
slot_sound-requires c =
    -- the fields of every slot fit
    let fitting : fields_fit (digest_of (slots_of c.args.slots.now)) ≡ true = ap fields_fit (sym c.requires) ∙ sym c.fields_fit.ensures ∙ c.if-not-fields_fit.false in
    let l = c.args.slots.now in
    let i = c.loop-row.row-index in
    ap (λ x. fields_fit (digest_one x)) (c.slot_in.ensures ∙ row-get c.rows-row-items.result.now l c.rows-row-items.ensures i _ c.loop-row-test.true)
    ∙ all-get (λ x. fields_fit (digest_one x)) no_slot (slots_of l) i empty-fits (fits_all (slots_of l) fitting)

pub returns-then-not-slot_sound : goal.returns-then-not-slot_sound
returns-then-not-slot_sound c =
    let l = c.args.slots.now in
    let i = c.loop-row.row-index in
    let rows = c.rows-row-items.result.now in
    let is = c.slot_in.ensures ∙ row-get rows l c.rows-row-items.ensures i _ c.loop-row-test.true in
    sym (c.loop-row.invariant ∙ all-fail no_slot (slots_of l) i slot_sound (omega (arith, slots_length l, rows_length rows l c.rows-row-items.ensures))
    (ap slot_sound (sym is) ∙ sym c.slot_sound.ensures ∙ c.if-not-slot_sound.true))

pub loop-row-preserved : goal.loop-row-preserved
loop-row-preserved c =
    let l = c.args.slots.now in
    let i = c.loop-row.row-index in
    let rows = c.rows-row-items.result.now in
    let is = c.slot_in.ensures ∙ row-get rows l c.rows-row-items.ensures i _ c.loop-row-test.true in
    c.loop-row.invariant ∙ all_pass no_slot (slots_of l) i slot_sound (omega (arith, slots_length l, rows_length rows l c.rows-row-items.ensures))
    (ap slot_sound (sym is) ∙ sym c.slot_sound.ensures ∙ c.if-not-slot_sound.false)

pub returns : goal.returns
returns c =
    let l = c.args.slots.now in
    sym (c.loop-row.invariant ∙ all_end no_slot (slots_of l) c.loop-row.row-index slot_sound
    (omega (arith, slots_length l, rows_length c.rows-row-items.result.now l c.rows-row-items.ensures)))
