-- `questions::mode_writes` meets its contract.
use mathlib.Core.Path.{sym, ◌∙◌}
use Rattle.questions.proofs.mode_writes.Goals as goal
use Rattle.questions.proofs.mode_writes.Goals.{then-is_guest_writable, else-is_guest_writable}

pub returns : goal.returns
returns c =
    let asked = c.is_guest_writable in
    elim c.if-is_guest_writable.branch [
      | then-is_guest_writable w ↦ rw (w.least-is, sym asked.ensures ∙ w.if-is_guest_writable.true, c.read_register.ensures.read)
      | else-is_guest_writable w ↦ rw (w.least-is, sym asked.ensures ∙ w.if-is_guest_writable.false, c.read_register.ensures.read)
    ]
