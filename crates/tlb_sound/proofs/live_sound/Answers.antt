-- `tlb_sound::live_sound` meets its contract, test by test.
use Rattle.std.proofs.Common.{◌≡◌, ℕ, ◌-◌, ◌%◌, ◌^◌, true, not, ◌&&◌, eqb, leb, sym, ◌∙◌, eq-eqb, ne_eqb, le-leb}
use borrow.Author.Tests.{lt-leb}
use lib.Bits.{bit_and}
use Rattle.machine.specs.Pages.{page_size}
use Rattle.machine.specs.Slots.{is_live, size_code}
use Rattle.machine.specs.Sound.{live_sound}
use Rattle.machine.specs.declared.Slot.{Slot}
use Rattle.tlb_sound.specs.Digests.{digest_one, fields_fit}
use Rattle.tlb_sound.proofs.Digests.{live-left}
use Rattle.tlb_sound.proofs.live_sound.Goals as goal

-- what is left to ask, by the mask
left : (x : Slot) (mask code : ℕ) → is_live x ≡ true → fields_fit (digest_one x) ≡ true → mask ≡ page_size code - 1 → code ≡ size_code x
    → live_sound x ≡ (not (eqb mask 0) && (leb (x.owner % 2 ^ 14) (2 ^ 13) && eqb (bit_and x.page mask) 0))
left x mask code l f m e = rw (m, e) (live-left x l f)

pub returns-then-x-le8192 : goal.returns-then-x-le8192
returns-then-x-le8192 c =
    let real : leb (c.args.x.owner % 2 ^ 14) (2 ^ 13) ≡ true = le-leb _ _ c.if-x-le8192.true in
    sym (left c.args.x _ _ c.requires.0 c.requires.1 c.page_mask-mask.ensures c.size_code.ensures ∙ rw (ne_eqb _ _ c.if-mask-ne0.true, real))

pub returns-else-x-le8192 : goal.returns-else-x-le8192
returns-else-x-le8192 c =
    sym (left c.args.x _ _ c.requires.0 c.requires.1 c.page_mask-mask.ensures c.size_code.ensures ∙ rw (ne_eqb _ _ c.if-mask-ne0.true, lt-leb _ _ c.if-x-le8192.false))

pub returns-else-mask-ne0 : goal.returns-else-mask-ne0
returns-else-mask-ne0 c = sym (left c.args.x _ _ c.requires.0 c.requires.1 c.page_mask-mask.ensures c.size_code.ensures ∙ rw (eq-eqb _ _ c.if-mask-ne0.false))
