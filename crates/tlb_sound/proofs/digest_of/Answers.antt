-- `tlb_sound::digest_of` meets its contract: what is gathered of the first rows is their digest.
use Rattle.std.proofs.Common.{◌≡◌, ◌∙◌, ap, List, ℕ, map, refl, sym, rules}
use Rattle.std.proofs.iter.Yields.{fronts, slice_gives}
use Rattle.std.proofs.lemmas.Fn.{fold_over}
use Rattle.tlb.specs.Rows.{row_slot}
use Rattle.tlb_sound.specs.Digests.{digest_one, joined, joined_all, no_digest}
use Rattle.tlb_sound.specs.declared.Digest.{Digest}
use Rattle.tlb_sound.proofs.Digests.{joined_more}
use Rattle.tlb_sound.proofs.digest_of.Goals as goal

-- the digest of some rows
abbrev Gathered : List (List ℕ) → Digest → Type 0
Gathered rows d = d ≡ joined_all no_digest (map row_slot rows)

pub returns : goal.returns
unfolding joined_all
returns c =
    fold_over fronts (λ x. x.now) _ Gathered _
    (λ rows d row e f j k.
    let more : e ≡ joined d (digest_one (row_slot row.now)) = search rules in
    (more ∙ ap (λ (a : Digest). joined a (digest_one (row_slot row.now))) j ∙ sym (joined_more no_digest rows row.now), search rules))
    c.iter.result _ _ _ (slice_gives c.iter.result) refl c.fold.ensures.ran
    ∙ ap (λ (rows : List (List ℕ)). joined_all no_digest (map row_slot rows)) c.iter.ensures.rest
    ∙ ap (joined_all no_digest) c.rows.ensures
