-- `tlb::store_slot` meets its contract.
use Rattle.std.proofs.Common.{ℕ, ◌*◌, List, [], ◌∷◌, sym, refl, ◌∙◌, arith}
use Rattle.std.proofs.lemmas.List.Edits.{sets-eq}
use Rattle.std.proofs.lemmas.Slice.{put_mid-paste}
use Rattle.tlb.proofs.store_slot.Goals as goal

pub returns : goal.returns
returns c =
    let x = c.args.x in
    let row : List ℕ = x.owner ∷ x.page ∷ x.word ∷ x.flags ∷ [] in
    put_mid-paste (c.args.i * 4) _ c.args.slots.now _ row 4 c.copy_from_slice.ensures.after (omega arith) refl
    ∙ sym (sets-eq row c.args.slots.now (c.args.i * 4) c.requires)
