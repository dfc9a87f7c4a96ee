-- `access::prepare_access` meets its contract.
use native.Mathlib.Omega.{arith}
use borrow.Author.Tests.{eq-eqb, ne_eqb}
use Rattle.machine.specs.Access.{prepare}
use Rattle.access.proofs.prepare_access.Goals as goal

pub returns-then-not-aligned : goal.returns-then-not-aligned
unfolding prepare
returns-then-not-aligned c =
    record {
      prepared = rw (← c.aligned.ensures, c.if-not-aligned.true);
      fits = (omega arith, tt);
    }

pub returns-then-is_user_nucleus : goal.returns-then-is_user_nucleus
unfolding prepare
returns-then-is_user_nucleus c =
    record {
      prepared = rw (
        ← c.aligned.ensures,
        c.if-not-aligned.false,
        ← c.read_register-mode.ensures.read,
        ← c.is_user_nucleus.ensures,
        c.if-is_user_nucleus.true,
      );
      fits = (omega arith, tt);
    }

pub returns-then-mode-eq-HYPERPRIVILEGED : goal.returns-then-mode-eq-HYPERPRIVILEGED
unfolding prepare
returns-then-mode-eq-HYPERPRIVILEGED c =
    record {
      prepared = rw (
        ← c.aligned.ensures,
        c.if-not-aligned.false,
        ← c.read_register-mode.ensures.read,
        ← c.is_user_nucleus.ensures,
        c.if-is_user_nucleus.false,
        eq-eqb _ _ c.if-mode-eq-HYPERPRIVILEGED.true,
        c.prepare_bypass.ensures.prepared,
      );
      fits = c.prepare_bypass.ensures.fits;
    }

pub returns-then-not-in_range : goal.returns-then-not-in_range
unfolding prepare
returns-then-not-in_range c =
    record {
      prepared = rw (
        ← c.aligned.ensures,
        c.if-not-aligned.false,
        ← c.read_register-mode.ensures.read,
        ← c.is_user_nucleus.ensures,
        c.if-is_user_nucleus.false,
        ne_eqb c.read_register-mode.result 2 (λ e. omega arith),
        ← c.in_range.ensures,
        c.if-not-in_range.true,
        c.exception_of.ensures.trap,
        c.tag_written.ensures.tag,
      );
      fits = (omega (arith, c.exception_of.ensures.fault), c.tag_written.ensures.fits);
    }

pub returns : goal.returns
unfolding prepare
returns c =
    record {
      prepared = rw (
        ← c.aligned.ensures,
        c.if-not-aligned.false,
        ← c.read_register-mode.ensures.read,
        ← c.is_user_nucleus.ensures,
        c.if-is_user_nucleus.false,
        ne_eqb c.read_register-mode.result 2 (λ e. omega arith),
        ← c.in_range.ensures,
        c.if-not-in_range.false,
      );
      fits = tt;
    }
