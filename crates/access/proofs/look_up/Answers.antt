-- `access::look_up` meets its contract: on the words in which the lookup is noted.
use mathlib.Core.Path.{sym, ◌∙◌}
use native.Mathlib.Omega.{arith}
use Rattle.laws.proofs.Walks.{found_at}
use Rattle.machine.specs.Slots.{no_slot, answers_to}
use Rattle.machine.specs.State.{counts, state_in, side_of}
use Rattle.machine.proofs.Matches.{found-holds}
use Rattle.machine.proofs.State.{sound-registers}
use Rattle.state.proofs.Lent.{side-slots}
use Rattle.access.proofs.Noted.{noted_in, looked-same, noted-hit, missed-even, noted-miss}
use Rattle.access.proofs.look_up.Goals as goal

pub key_of_access-key-requires : goal.key_of_access-key-requires
key_of_access-key-requires c =
    let w = c.args.state.now in
    let e = c.note_lookup.ensures.noted in
    sound-registers counts _ (noted_in w c.requires c.args.a c.note_lookup.ensures.there e)

pub search_hinted-found-requires : goal.search_hinted-found-requires
search_hinted-found-requires c =
    let w = c.args.state.now in
    let e = c.note_lookup.ensures.noted in
    (noted_in w c.requires c.args.a c.note_lookup.ensures.there e, c.key_of_access-key.ensures.fits)

pub settle_hit-requires : goal.settle_hit-requires
settle_hit-requires c =
    let w = c.args.state.now in
    let e = c.note_lookup.ensures.noted in
    let left = c.note_lookup.new.state in
    let slots = side_of (state_in left) c.args.a.side in
    let key = c.key_of_access-key.result in
    -- what the search of the access's side found
    let o = sym c.search_hinted-found.ensures ∙ c.in-Some.is in
    let i = (found_at no_slot (answers_to key) slots _ o).0 in (
      omega (arith, i, side-slots left c.note_lookup.array_long c.args.a.side),
      sound-registers counts _ (noted_in w c.requires c.args.a c.note_lookup.ensures.there e),
      found-holds key slots _ o,
    )

pub settle_miss-answer-requires : goal.settle_miss-answer-requires
settle_miss-answer-requires c =
    let w = c.args.state.now in
    let e = c.note_lookup.ensures.noted in
    sound-registers counts _ (noted_in w c.requires c.args.a c.note_lookup.ensures.there e)

pub note_miss-requires : goal.note_miss-requires
note_miss-requires c =
    let w = c.args.state.now in
    let e = c.note_lookup.ensures.noted in
    let d = c.settle_miss-answer.ensures in
    missed-even w c.requires c.args.a c.note_lookup.ensures.there e d

pub returns-in-Some : goal.returns-in-Some
returns-in-Some c =
    let w = c.args.state.now in
    let e = c.note_lookup.ensures.noted in
    let o = sym c.search_hinted-found.ensures ∙ c.in-Some.is in
    rw (looked-same w c.requires c.args.a c.note_lookup.ensures.there e _ c.key_of_access-key.ensures.key _ o)
    (noted-hit w c.requires c.args.a c.note_lookup.ensures.there e _ _ o c.settle_hit.ensures)

pub returns-in-None : goal.returns-in-None
returns-in-None c =
    let w = c.args.state.now in
    let e = c.note_lookup.ensures.noted in
    rw (looked-same w c.requires c.args.a c.note_lookup.ensures.there e _ c.key_of_access-key.ensures.key _ (sym c.search_hinted-found.ensures ∙ c.in-None.is))
    (noted-miss w c.requires c.args.a c.note_lookup.ensures.there e c.settle_miss-answer.ensures c.note_miss.ensures)
