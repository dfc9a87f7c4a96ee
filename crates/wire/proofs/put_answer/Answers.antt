-- `wire::put_answer` meets its contract: three words stored one after the other are the answer.
-- Assumes nothing.
use Rattle.wire.proofs.Answers.{answer-stores}
use Rattle.wire.proofs.put_answer.Goals as goal

pub returns : goal.returns
returns c = answer-stores _ _ _ c.words_of-words.ensures c.put_eight.ensures c.put_eight-2.ensures c.put_eight-3.ensures
