-- `wire::answer_bytes` meets its contract: 24 bytes stored over 24 leave none of those before.
-- Assumes nothing.
use borrow.Author.Rules.{rules}
use Rattle.machine.specs.Stream.{answer_bytes}
use Rattle.wire.proofs.answer_bytes.Goals as goal

pub returns : goal.returns
unfolding answer_bytes
returns c = search rules
