-- `t1mmu_miss::t1mmu_hand_back` meets its contract, by what `miss_handler::part_of` ensures.
use Rattle.t1mmu_miss.proofs.Calls.{part-call}
use Rattle.t1mmu_miss.proofs.t1mmu_hand_back.Goals as goal

pub returns : goal.returns
returns c =
    let p = part-call _ _ _ _ _ _ c.part_of.ensures in
    record { told = p.0; equal = p.1 }
