-- `tlb::is_compared` meets its contract: the owner, then bit 63.
use Rattle.std.proofs.Common.{eq-eqb, ne_eqb}
use Rattle.tlb.specs.Tables.{compared_by}
use Rattle.tlb.proofs.is_compared.Goals as goal

pub returns-then-row-owner : goal.returns-then-row-owner
unfolding compared_by
returns-then-row-owner c = rw (eq-eqb _ _ c.if-row-owner.true)

pub returns-else-row-owner : goal.returns-else-row-owner
unfolding compared_by
returns-else-row-owner c = rw (ne_eqb _ _ c.if-row-owner.false)
