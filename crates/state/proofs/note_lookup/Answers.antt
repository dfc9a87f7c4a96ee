-- `state::note_lookup` meets its contract: by whether the newest word is full.
use mathlib.Core.Path.{◌∙◌}
use Rattle.state.proofs.Lookups.{seen-small, kept-noted, turned-small, turned-noted}
use Rattle.state.proofs.note_lookup.Goals as goal

pub put_lookup-requires : goal.put_lookup-requires
put_lookup-requires c =
    let words = c.args.state.now in
    let b = c.record_of-number.ensures.small in (
      b,
      turned-small words c.told-state _ b c.requires c.turn_record.ensures,
    )

pub returns-then-state-number-eq0 : goal.returns-then-state-number-eq0
returns-then-state-number-eq0 c =
    let b = c.record_of-number.ensures.small in record {
      noted = c.put_lookup.ensures
          ∙ rw (← c.record_of-number.ensures.record) (turned-noted c.args.state.now c.told-state _ b c.requires c.turn_record.ensures c.if-state-number-eq0.true);
      there = c.record_of-number.ensures.there;
    }

pub put_lookup-requires-2 : goal.put_lookup-requires-2
put_lookup-requires-2 c =
    let b = c.record_of-number.ensures.small in
    (b, seen-small c.args.state.now c.told-state _ b c.requires)

pub returns : goal.returns
returns c =
    let b = c.record_of-number.ensures.small in record {
      noted = c.put_lookup-2.ensures
          ∙ rw (← c.record_of-number.ensures.record) (kept-noted c.args.state.now c.told-state _ b c.requires c.if-state-number-eq0.false);
      there = c.record_of-number.ensures.there;
    }
