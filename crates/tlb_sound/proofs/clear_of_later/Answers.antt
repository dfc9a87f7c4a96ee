-- `tlb_sound::clear_of_later` meets its contract.
use Rattle.std.proofs.Common.{◌≡◌, true, ◌∙◌, ap, List, ℕ, rules}
use Rattle.machine.specs.Pages.{page_size}
use Rattle.machine.specs.Slots.{size_code}
use Rattle.machine.specs.Sound.{slot_sound}
use Rattle.tlb.specs.Rows.{row_slot}
use Rattle.tlb.specs.Tables.{spans_of}
use Rattle.tlb_sound.proofs.Rows.{sound_row}
use Rattle.tlb_sound.proofs.clear_of_later.Goals as goal

pub none_passes-requires : goal.none_passes-requires
none_passes-requires c = λ k d h p e.
    let its : slot_sound (row_slot p.now) ≡ true = ap (λ (row : List ℕ). slot_sound (row_slot row)) e ∙ sound_row c.args.later.now k d h c.requires.1 in
    let span : c.spans-span.result ≡ spans_of (page_size (size_code c.args.x)) = c.spans-span.ensures ∙ rw (c.page_size.ensures, c.size_code.ensures) in
    search rules
