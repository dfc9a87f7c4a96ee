-- `mmu::act_rate` meets its contract.
use Rattle.laws.specs.Tests.{all_of}
use Rattle.laws.proofs.Bools.{and_left, and_right}
use Rattle.machine.specs.State.{state_in}
use Rattle.machine.specs.Questions.{asked}
use Rattle.machine.specs.Step.{act}
use Rattle.machine.specs.declared.Command.TheVariants as command
use Rattle.machine.proofs.State.{passed-asked}
use Rattle.mmu.proofs.act_rate.Goals as goal

ruleset conj = (and_left, and_right)

-- 15 was asked: a lookup is kept
pub miss_rate-requires : goal.miss_rate-requires
unfolding asked all_of
miss_rate-requires c =
    let u = state_in c.args.state.now in
    let q = passed-asked c.requires.passed.0 u (command.Rate c.args.strand c.args.side) c.requires.passed.1 in
    search conj

pub returns : goal.returns
unfolding act
returns c = rw c.miss_rate.ensures
