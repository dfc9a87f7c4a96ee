-- `questions::ask_side` meets its contract, question by question.
use Rattle.std.proofs.lemmas.Result.{err_from_is_err_and}
use mathlib.Core.Path.{◌∙◌}
use mathlib.Core.List.{[], ◌∷◌}
use lib.Dec.{ltb}
use Rattle.machine.specs.Questions.{question}
use Rattle.machine.specs.declared.Refusal.TheVariants as refusal
use Rattle.questions.specs.Verdicts.{asked_strand, asked_side}
use Rattle.questions.proofs.Asks.{every, none, passed, kept, refused, asked-below}
use Rattle.questions.proofs.ask_side.Goals as goal

pub returns-in_err-strand : goal.returns-in_err-strand
returns-in_err-strand c =
    let a = c.args in
    let p = err_from_is_err_and c.from_residual.result c.from_residual.ensures.1 in
    rw (p.1, p.2, ← refused (asked_strand a.strand) a.strand c.ask_strand.ensures _ c.in_err-strand.was (every (asked_side a.strand a.side)))

pub returns-in_err-side : goal.returns-in_err-side
returns-in_err-side c =
    let a = c.args in
    let p = err_from_is_err_and c.from_residual-in_err-side.result c.from_residual-in_err-side.ensures.1 in
    let l = passed (asked_strand a.strand) a.strand c.ask_strand.ensures _ c.in_ok-strand.was (every (asked_side a.strand a.side)) in
    let told = c.ok_or.ensures.value ∙ asked-below _ a.side 2 _ c.new.ensures in
    rw (p.1, p.2, ← refused (question refusal.Side (ltb a.side 2) ∷ []) a.side told _ c.in_err-side.was l)

pub returns : goal.returns
returns c =
    let a = c.args in
    let l = passed (asked_strand a.strand) a.strand c.ask_strand.ensures _ c.in_ok-strand.was (every (asked_side a.strand a.side)) in
    let qs = question refusal.Side (ltb a.side 2) ∷ [] in
    let told = c.ok_or.ensures.value ∙ asked-below _ a.side 2 _ c.new.ensures in
    rw (
      ← none (passed qs a.side told _ c.in_ok-side.was l),
      kept (asked_strand a.strand) a.strand c.ask_strand.ensures c.in_ok-strand.was,
      kept qs a.side told c.in_ok-side.was,
    )
