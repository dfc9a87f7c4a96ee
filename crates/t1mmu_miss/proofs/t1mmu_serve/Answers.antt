-- `t1mmu_miss::t1mmu_serve` meets its contract, by what `miss_handler::serve` ensures.
use Rattle.t1mmu_miss.proofs.Calls.{serve-call}
use Rattle.t1mmu_miss.proofs.t1mmu_serve.Goals as goal

pub returns : goal.returns
returns c =
    let (told, (words, (bytes, (lists, whole)))) = serve-call _ _ _ _ _ _ _ _ c.serve-answer.ensures.words c.serve-answer.ensures.answer c.answer_bytes.ensures in
    record { told = told; words = words; bytes = bytes; lists = lists; demand3 = whole }
