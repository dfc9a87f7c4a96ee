-- `questions::question` meets its contract, command by command.
use Rattle.std.proofs.lemmas.Result.{err_from_is_err_and}
use mathlib.Core.Bool.{true, false}
use mathlib.Core.List.{[]}
use Rattle.machine.specs.Permission.{permitted}
use Rattle.machine.specs.State.{state_in}
use Rattle.machine.specs.Questions.{asked, verdict}
use Rattle.machine.specs.declared.Command.TheVariants as command
use Rattle.questions.specs.Verdicts.{asked_open}
use Rattle.questions.proofs.Asks.{all, none, passed, refused}
use Rattle.questions.proofs.question.Goals as goal

-- a demap all is not open to guests, pointers are
pub returns-in_err-ask_open-in-DemapAll : goal.returns-in_err-ask_open-in-DemapAll
unfolding verdict asked permitted
returns-in_err-ask_open-in-DemapAll c =
    let file = (state_in c.args.state.now).registers in
    let a = c.in-DemapAll in
    let p = err_from_is_err_and c.from_residual.result c.from_residual.ensures.1 in
    rw (p.1, p.2, a.is) (refused (asked_open file a.strand a.side false) (a.strand, a.side) c.ask_open.ensures [] c.in_err-ask_open-in-DemapAll.was (all c.args.hypervisor (state_in c.args.state.now) (command.DemapAll a.strand a.side)))

pub returns-in_ok-ask_open-in-DemapAll : goal.returns-in_ok-ask_open-in-DemapAll
unfolding verdict asked permitted
returns-in_ok-ask_open-in-DemapAll c =
    let file = (state_in c.args.state.now).registers in
    let a = c.in-DemapAll in
    rw a.is (none (passed (asked_open file a.strand a.side false) (a.strand, a.side) c.ask_open.ensures [] c.in_ok-ask_open-in-DemapAll.was (all c.args.hypervisor (state_in c.args.state.now) (command.DemapAll a.strand a.side))))

pub returns-in-Invalidate : goal.returns-in-Invalidate
returns-in-Invalidate c = rw c.in-Invalidate.is c.ask_invalidate.ensures

pub returns-in-Access : goal.returns-in-Access
returns-in-Access c = rw c.in-Access.is (c.ask_access.ensures _)

pub returns-in-Read : goal.returns-in-Read
returns-in-Read c = rw c.in-Read.is (c.ask_read.ensures _)

pub returns-in_err-ask_open-in-Pointers : goal.returns-in_err-ask_open-in-Pointers
unfolding verdict asked permitted
returns-in_err-ask_open-in-Pointers c =
    let file = (state_in c.args.state.now).registers in
    let a = c.in-Pointers in
    let p = err_from_is_err_and c.from_residual-in_err-ask_open-in-Pointers.result c.from_residual-in_err-ask_open-in-Pointers.ensures.1 in
    rw (p.1, p.2, a.is) (refused (asked_open file a.strand a.side true) (a.strand, a.side) c.ask_open-in-Pointers.ensures [] c.in_err-ask_open-in-Pointers.was (all c.args.hypervisor (state_in c.args.state.now) (command.Pointers a.strand a.side)))

pub returns-in_ok-ask_open-in-Pointers : goal.returns-in_ok-ask_open-in-Pointers
unfolding verdict asked permitted
returns-in_ok-ask_open-in-Pointers c =
    let file = (state_in c.args.state.now).registers in
    let a = c.in-Pointers in
    rw a.is (none (passed (asked_open file a.strand a.side true) (a.strand, a.side) c.ask_open-in-Pointers.ensures [] c.in_ok-ask_open-in-Pointers.was (all c.args.hypervisor (state_in c.args.state.now) (command.Pointers a.strand a.side))))

pub returns-in-Rate : goal.returns-in-Rate
returns-in-Rate c = rw c.in-Rate.is (c.ask_rate.ensures _)
