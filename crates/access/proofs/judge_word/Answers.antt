-- `access::judge_word` meets its contract.
use native.Mathlib.Omega.{arith}
use borrow.Author.Tests.{eq-eqb, ne_eqb}
use Rattle.machine.specs.Access.{judge}
use Rattle.access.proofs.judge_word.Goals as goal

pub returns-then-fault-ne0 : goal.returns-then-fault-ne0
unfolding judge
returns-then-fault-ne0 c =
    record {
      judged = rw (← c.read_register.ensures.read, ← c.fault_of-fault.ensures.fault, ne_eqb _ _ c.if-fault-ne0.true, c.exception_of.ensures.trap);
      fits = omega (arith, c.exception_of.ensures.fault, c.fault_of-fault.ensures.small);
    }

pub returns-then-is_write_denied : goal.returns-then-is_write_denied
unfolding judge
returns-then-is_write_denied c =
    record {
      judged = rw (
        ← c.read_register.ensures.read,
        ← c.fault_of-fault.ensures.fault,
        eq-eqb _ _ c.if-fault-ne0.false,
        ← c.is_write_denied.ensures,
        c.if-is_write_denied.true,
      );
      fits = omega arith;
    }

pub returns : goal.returns
unfolding judge
returns c =
    record {
      judged = rw (
        ← c.read_register.ensures.read,
        ← c.fault_of-fault.ensures.fault,
        eq-eqb _ _ c.if-fault-ne0.false,
        ← c.is_write_denied.ensures,
        c.if-is_write_denied.false,
      );
      fits = tt;
    }
