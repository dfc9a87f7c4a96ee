-- `questions::ask_access` meets its contract, question by question; number 7 is asked in two tests.
use Rattle.std.proofs.lemmas.Result.{err_from_is_err_and}
use native.Mathlib.Omega.{arith}
use mathlib.Core.Path.{◌≡◌}
use borrow.Author.Tests.{lt-ltb, le-ltb}
use Rattle.machine.specs.Questions.{asked, selector_fits, kind_side}
use Rattle.questions.specs.Verdicts.{asked_strand}
use Rattle.questions.proofs.Asks.{all, passed, kept, refused, yes, no, none, held, failed}
use Rattle.questions.proofs.ask_access.Goals as goal

pub returns-in_err-strand : goal.returns-in_err-strand
unfolding asked
returns-in_err-strand c hv =
    let p = err_from_is_err_and c.from_residual.result c.from_residual.ensures.1 in
    rw (p.1, p.2) (refused (asked_strand c.args.strand) c.args.strand c.ask_strand.ensures _ c.in_err-strand.was (all hv _ _))

pub returns-then-kind-ge5 : goal.returns-then-kind-ge5
unfolding asked
returns-then-kind-ge5 c hv = no (passed (asked_strand c.args.strand) c.args.strand c.ask_strand.ensures _ c.in_ok-strand.was (all hv _ _)) (le-ltb _ 5 (omega arith))

-- here and below, the side is that of the kind
pub returns-then-not-selector_fits : goal.returns-then-not-selector_fits
unfolding asked
returns-then-not-selector_fits c hv =
    let side : c.selector_fits.result ≡ selector_fits (kind_side c.args.kind) c.args.selector = rw c.access_side.ensures at c.selector_fits.ensures in
    no (yes (passed (asked_strand c.args.strand) c.args.strand c.ask_strand.ensures _ c.in_ok-strand.was (all hv _ _)) (lt-ltb _ 5 (omega arith)))
    (rw (failed side c.if-not-selector_fits.true))

pub returns-then-is_nucleus_fetch : goal.returns-then-is_nucleus_fetch
unfolding asked
returns-then-is_nucleus_fetch c hv =
    let side : c.selector_fits.result ≡ selector_fits (kind_side c.args.kind) c.args.selector = rw c.access_side.ensures at c.selector_fits.ensures in
    no (yes (passed (asked_strand c.args.strand) c.args.strand c.ask_strand.ensures _ c.in_ok-strand.was (all hv _ _)) (lt-ltb _ 5 (omega arith)))
    (rw (held side c.if-not-selector_fits.false, held (rw (kept (asked_strand c.args.strand) c.args.strand c.ask_strand.ensures c.in_ok-strand.was) at c.is_nucleus_fetch.ensures) c.if-is_nucleus_fetch.true))

pub returns-then-not-size_fits : goal.returns-then-not-size_fits
unfolding asked
returns-then-not-size_fits c hv =
    let side : c.selector_fits.result ≡ selector_fits (kind_side c.args.kind) c.args.selector = rw c.access_side.ensures at c.selector_fits.ensures in
    no (yes (yes (passed (asked_strand c.args.strand) c.args.strand c.ask_strand.ensures _ c.in_ok-strand.was (all hv _ _)) (lt-ltb _ 5 (omega arith)))
    (rw (held side c.if-not-selector_fits.false, failed (rw (kept (asked_strand c.args.strand) c.args.strand c.ask_strand.ensures c.in_ok-strand.was) at c.is_nucleus_fetch.ensures) c.if-is_nucleus_fetch.false)))
    (failed c.size_fits.ensures c.if-not-size_fits.true)

pub returns : goal.returns
unfolding asked
returns c hv =
    let side : c.selector_fits.result ≡ selector_fits (kind_side c.args.kind) c.args.selector = rw c.access_side.ensures at c.selector_fits.ensures in
    none (yes (yes (yes (passed (asked_strand c.args.strand) c.args.strand c.ask_strand.ensures _ c.in_ok-strand.was (all hv _ _)) (lt-ltb _ 5 (omega arith)))
    (rw (held side c.if-not-selector_fits.false, failed (rw (kept (asked_strand c.args.strand) c.args.strand c.ask_strand.ensures c.in_ok-strand.was) at c.is_nucleus_fetch.ensures) c.if-is_nucleus_fetch.false)))
    (held c.size_fits.ensures c.if-not-size_fits.false))
