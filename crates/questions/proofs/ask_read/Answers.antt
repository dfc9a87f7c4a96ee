-- `questions::ask_read` meets its contract, question by question.
use Rattle.std.proofs.lemmas.Result.{err_from_is_err_and}
use Rattle.machine.specs.Questions.{asked}
use Rattle.questions.specs.Verdicts.{asked_strand}
use Rattle.questions.proofs.Asks.{all, passed, refused, yes, no, none, held, failed}
use Rattle.questions.proofs.ask_read.Goals as goal

pub returns-in_err-strand : goal.returns-in_err-strand
unfolding asked
returns-in_err-strand c hv =
    let p = err_from_is_err_and c.from_residual.result c.from_residual.ensures.1 in
    rw (p.1, p.2) (refused (asked_strand c.args.strand) c.args.strand c.ask_strand.ensures _ c.in_err-strand.was (all hv _ _))

pub returns-then-not-is_known : goal.returns-then-not-is_known
unfolding asked
returns-then-not-is_known c hv = no (passed (asked_strand c.args.strand) c.args.strand c.ask_strand.ensures _ c.in_ok-strand.was (all hv _ _)) (failed c.is_known.ensures c.if-not-is_known.true)

pub returns : goal.returns
unfolding asked
returns c hv = none (yes (passed (asked_strand c.args.strand) c.args.strand c.ask_strand.ensures _ c.in_ok-strand.was (all hv _ _)) (held c.is_known.ensures c.if-not-is_known.false))
