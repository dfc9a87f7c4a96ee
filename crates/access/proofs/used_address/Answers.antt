-- `access::used_address` meets its contract.
use borrow.Author.Tests.{eq-eqb, ne_eqb, lt-ltb, le-ltb}
use Rattle.access.proofs.used_address.Goals as goal

pub returns-then-read_register-ne1 : goal.returns-then-read_register-ne1
returns-then-read_register-ne1 c = rw (← c.read_register.ensures.read, ne_eqb _ _ c.if-read_register-ne1.true)

pub returns-then-read_register-ge-HYPERPRIVILEGED : goal.returns-then-read_register-ge-HYPERPRIVILEGED
returns-then-read_register-ge-HYPERPRIVILEGED c = rw (← c.read_register.ensures.read, eq-eqb _ _ c.if-read_register-ne1.false, ← c.read_register-2.ensures.read, le-ltb _ _ c.if-read_register-ge-HYPERPRIVILEGED.true)

pub returns : goal.returns
returns c = rw (← c.read_register.ensures.read, eq-eqb _ _ c.if-read_register-ne1.false, ← c.read_register-2.ensures.read, lt-ltb _ _ c.if-read_register-ge-HYPERPRIVILEGED.false)
