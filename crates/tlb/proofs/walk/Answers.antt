-- `tlb::walk` meets its contract. The invariant: the slots up to i are passed.
use Rattle.std.proofs.Common.{◌≡◌, ◌+◌, ◌≤◌, true, false, [], get_or, sym, ◌∙◌, arith}
use mathlib.Core.Bool.{and-false}
use Rattle.std.proofs.lemmas.List.{length-map}
use Rattle.laws.specs.Tests.{tick}
use Rattle.machine.specs.declared.Slot.{Slot}
use Rattle.tlb.specs.Rows.{row_slot}
use Rattle.tlb.specs.Tables.{compared_by, starts_by, answers_by}
use Rattle.tlb.proofs.ByRow.{row_is, inside}
use Rattle.tlb.proofs.Seen.{seen-found, seen_more, seen_end}
use Rattle.tlb.proofs.walk.Goals as goal
use Rattle.tlb.proofs.walk.Goals.{then-is_compared+else-has_start, else-is_compared}

pub returns-then-has_start-clause-searched : goal.returns-then-has_start-clause-searched
returns-then-has_start-clause-searched c =
    let rows = c.args.rows.now in
    sym (seen-found _ _ _ _ _ c.loop-i.invariant.1 _ (row_is rows c.loop-i.i _ c.loop-i-test.true) (inside rows c.loop-i.i c.loop-i-test.true)
    (sym c.is_compared.ensures ∙ c.if-is_compared.true) (sym c.has_start.ensures ∙ c.if-has_start.true))

pub loop-i-preserved : goal.loop-i-preserved
unfolding answers_by
loop-i-preserved c =
    let a = c.args in
    let x : Slot = row_slot (get_or a.rows.now c.loop-i.i []) in
    -- slot i does not answer, and its page is counted where it was compared
    let p : (answers_by a.owner a.start.now x ≡ false) × (c.if-is_compared.compared ≡ c.loop-i.compared + tick (compared_by a.owner x))
    × (c.if-is_compared.compared ≤ c.loop-i.compared + 1)
    = elim c.if-is_compared.branch [
      | then-is_compared+else-has_start w ↦
          let y : compared_by a.owner x ≡ true = sym c.is_compared.ensures ∙ w.if-is_compared.true in
          let n : starts_by a.start.now x ≡ false = sym w.has_start.ensures ∙ w.if-has_start.false in
          (rw n (and-false (compared_by a.owner x)), w.compared-is ∙ rw y, omega (arith, w.compared-is))
      | else-is_compared w ↦
          let n : compared_by a.owner x ≡ false = sym c.is_compared.ensures ∙ w.if-is_compared.false in
          (rw n, w.compared-is ∙ rw n (omega arith), omega (arith, w.compared-is))
    ] in (
      omega (arith, c.loop-i.invariant.0, p.2),
      seen_more _ _ _ _ _ c.loop-i.invariant.1 x (row_is a.rows.now c.loop-i.i _ c.loop-i-test.true) (inside a.rows.now c.loop-i.i c.loop-i-test.true) p.0 _ p.1,
    )

pub returns-clause-searched : goal.returns-clause-searched
returns-clause-searched c = sym (seen_end _ _ _ _ _ c.loop-i.invariant.1 (omega (arith, length-map c.args.rows.now row_slot)))
