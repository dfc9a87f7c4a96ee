use Rattle.std.proofs.Common.{◌+◌, ◌*◌}
use Rattle.tlb_update.specs.Sieves.{NonePass}
use Rattle.tlb_update.proofs.next.Given as goal

abbrev pub invariant-loop-k : goal.invariant-loop-k
invariant-loop-k l = NonePass l.sieve l.slots l.from (l.from + l.k * 4)
