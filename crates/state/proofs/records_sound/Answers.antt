-- `state::records_sound` meets its contract. The loop has seen the records below i.
use Prim.Native.Nat.{ℕ, ◌<◌}
use mathlib.Core.Path.{◌≡◌, refl, sym, ◌∙◌}
use mathlib.Core.List.{List}
use native.Mathlib.Numerals.{add-one}
use native.Mathlib.Omega.{arith}
use borrow.Author.Tests.{eq-eqb}
use Rattle.std.proofs.Math.Bool.{and_comm}
use Rattle.laws.specs.Tests.{all_below}
use Rattle.machine.specs.Record.{records_sound}
use Rattle.machine.specs.State.{counts, state_in}
use Rattle.state.proofs.Lent.{Lent}
use Rattle.state.proofs.Parts.{sized-words}
use Rattle.state.proofs.Lookups.{seen_at, newest-at}
use Rattle.state.proofs.records_sound.Invariants.{sound}
use Rattle.state.proofs.records_sound.Goals as goal

-- of words of a state's length the records decide
each-sound : (words : List ℕ) → Lent words → records_sound (state_in words).records ≡ all_below (sound words) 8
unfolding records_sound
each-sound words l =
    let z = sized-words counts words l in
    rw (eq-eqb _ _ z.seen, eq-eqb _ _ z.newest, eq-eqb _ _ z.older)

pub loop-i-init : goal.loop-i-init
unfolding all_below
loop-i-init c = refl

pub loop-i-preserved : goal.loop-i-preserved
unfolding all_below
loop-i-preserved c =
    let l = c.loop-i in
    let words = c.args.state.now in
    let b : l.i < 8 = omega arith in
    -- what is told of record i
    let told : sound words l.i ≡ c.record_sound-all.result =
    sym (c.record_sound-all.ensures ∙ rw (c.older_of.ensures, seen_at words c.told-state l.i b, newest-at words c.told-state l.i b)) in
    rw (add-one l.i) (rw (l.invariant, told) (and_comm (all_below (sound words) l.i) c.record_sound-all.result))

pub returns : goal.returns
returns c =
    let e : c.loop-i.i ≡ 8 = omega arith in
    rw e at c.loop-i.invariant ∙ sym (each-sound c.args.state.now c.told-state)
