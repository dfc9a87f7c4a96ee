-- `questions::mode_allows` meets its contract: mode 2 takes all, mode 1 what is open to guests.
use Prim.Native.Nat.{ℕ, ◌≤◌}
use mathlib.Core.Path.{◌≡◌, sym, ◌∙◌}
use mathlib.Core.Bool.{Bool, true, false}
use native.Mathlib.Omega.{arith}
use lib.Dec.{leb}
use borrow.Author.Tests.{le-leb, lt-leb}
use Rattle.machine.specs.Permission.{least_mode}
use Rattle.questions.proofs.mode_allows.Goals as goal

all : (guest : Bool) (mode : ℕ) → 2 ≤ mode → leb (least_mode guest) mode ≡ true
all true mode h = le-leb 1 mode (omega arith)
all false mode h = le-leb 2 mode h

pub returns-then-mode-ge-HYPERPRIVILEGED : goal.returns-then-mode-ge-HYPERPRIVILEGED
returns-then-mode-ge-HYPERPRIVILEGED c =
    let mode = c.read_register-mode in
    le-leb 2 mode.result c.if-mode-ge-HYPERPRIVILEGED.true ∙ sym (rw mode.ensures.read at (all c.args.guest mode.result c.if-mode-ge-HYPERPRIVILEGED.true))

pub returns-then-guest : goal.returns-then-guest
returns-then-guest c = rw (c.if-guest.true, c.read_register-mode.ensures.read)

pub returns-else-guest : goal.returns-else-guest
returns-else-guest c =
    let mode = c.read_register-mode in
    rw (c.if-guest.false, ← mode.ensures.read) (sym (lt-leb 2 mode.result c.if-mode-ge-HYPERPRIVILEGED.false))
