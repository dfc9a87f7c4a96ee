-- `state::reset` meets its contract.
use mathlib.Core.Path.{◌≡◌, refl, ap, ◌∙◌}
use native.Mathlib.Numerals.{add-one}
use native.Mathlib.Omega.{arith}
use lib.ListN.{replicate}
use borrow.Author.Tests.{eq-eqb, ne_eqb}
use Rattle.machine.specs.Slots.{words_of}
use Rattle.machine.specs.Registers.{reset_strands}
use Rattle.machine.specs.State.{counts, encode, reset, reset_of, reset_number}
use Rattle.state.proofs.reset.Invariants.{with_modes}
use Rattle.state.proofs.reset.Goals as goal

pub returns-then-state-ne-STATE_WORDS : goal.returns-then-state-ne-STATE_WORDS
unfolding reset_of reset_number
returns-then-state-ne-STATE_WORDS c =
    let e = ne_eqb _ _ c.if-state-ne-STATE_WORDS.true in record {
      words = rw e;
      number = rw e;
    }

pub loop-strand-init : goal.loop-strand-init
loop-strand-init c = c.fill.ensures.after (λ y e. e) ∙ ap (λ n. replicate n 0) c.if-state-ne-STATE_WORDS.false

pub loop-strand-preserved : goal.loop-strand-preserved
loop-strand-preserved c = rw (add-one c.loop-strand.strand, c.cell.ensures.cell, c.at.ensures, c.loop-strand.invariant)

-- the words of a reset state: the mode of all four strands is set
reset-words : with_modes 4 ≡ encode (reset counts)
unfolding encode reset reset_strands words_of
reset-words = refl

pub returns : goal.returns
unfolding reset_of reset_number
returns c =
    let e = eq-eqb _ _ c.if-state-ne-STATE_WORDS.false in
    let all : c.loop-strand.strand ≡ 4 = omega arith in record {
      words = rw e (rw all at c.loop-strand.invariant ∙ reset-words);
      number = rw e;
    }
