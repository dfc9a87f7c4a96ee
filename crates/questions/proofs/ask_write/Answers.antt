-- `questions::ask_write` meets its contract, question by question.
use Rattle.std.proofs.lemmas.Result.{err_from_is_err_and}
use Rattle.machine.specs.Permission.{permitted}
use Rattle.machine.specs.Questions.{asked}
use Rattle.questions.specs.Verdicts.{asked_strand}
use Rattle.questions.proofs.Asks.{all, passed, kept, refused, yes, no, none, held, failed}
use Rattle.questions.proofs.ask_write.Goals as goal

pub returns-in_err-strand : goal.returns-in_err-strand
unfolding asked permitted
returns-in_err-strand c hv =
    let p = err_from_is_err_and c.from_residual.result c.from_residual.ensures.1 in
    rw (p.1, p.2) (refused (asked_strand c.args.strand) c.args.strand c.ask_strand.ensures _ c.in_err-strand.was (all hv _ _))

pub returns-then-not-is_writable : goal.returns-then-not-is_writable
unfolding asked permitted
returns-then-not-is_writable c hv =
    no (passed (asked_strand c.args.strand) c.args.strand c.ask_strand.ensures _ c.in_ok-strand.was (all hv _ _)) (failed c.is_writable.ensures c.if-not-is_writable.true)

pub returns-then-not-is_allowed : goal.returns-then-not-is_allowed
unfolding asked permitted
returns-then-not-is_allowed c hv =
    no (yes (passed (asked_strand c.args.strand) c.args.strand c.ask_strand.ensures _ c.in_ok-strand.was (all hv _ _)) (held c.is_writable.ensures c.if-not-is_writable.false))
    (failed c.is_allowed.ensures c.if-not-is_allowed.true)

pub returns-then-not-mode_writes : goal.returns-then-not-mode_writes
unfolding asked permitted
returns-then-not-mode_writes c hv =
    no (yes (yes (passed (asked_strand c.args.strand) c.args.strand c.ask_strand.ensures _ c.in_ok-strand.was (all hv _ _)) (held c.is_writable.ensures c.if-not-is_writable.false))
    (held c.is_allowed.ensures c.if-not-is_allowed.false))
    (failed (rw (kept (asked_strand c.args.strand) c.args.strand c.ask_strand.ensures c.in_ok-strand.was) at c.mode_writes.ensures) c.if-not-mode_writes.true)

pub returns : goal.returns
unfolding asked permitted
returns c hv =
    none (yes (yes (yes (passed (asked_strand c.args.strand) c.args.strand c.ask_strand.ensures _ c.in_ok-strand.was (all hv _ _)) (held c.is_writable.ensures c.if-not-is_writable.false))
    (held c.is_allowed.ensures c.if-not-is_allowed.false))
    (held (rw (kept (asked_strand c.args.strand) c.args.strand c.ask_strand.ensures c.in_ok-strand.was) at c.mode_writes.ensures) c.if-not-mode_writes.false))
