-- `miss_handler::part_of` meets its contract: number 1, then by the verdict.
use Prim.Native.Nat.{ℕ}
use mathlib.Core.Path.{sym, ap, ◌∙◌}
use Rattle.machine.specs.Serve.{part_of}
use Rattle.questions.proofs.Asks.{after-ok, after-err}
use Rattle.miss_handler.proofs.part_of.Goals as goal

pub returns-in_default : goal.returns-in_default
unfolding part_of
returns-in_default c = rw c.in_default.ensures c.no_part.ensures

pub returns-in-Err : goal.returns-in-Err
unfolding part_of
returns-in-Err c =
    rw (c.in-Some.ensures.0, after-err (c.args.strand, c.args.side) _ (sym (rw c.in-Some.ensures.1 at c.ask_table.ensures) ∙ c.in-Err.is))
    (c.no_part-in-Err.ensures ∙ rw c.refusal_number.ensures)

pub returns-in-Ok : goal.returns-in-Ok
unfolding part_of
returns-in-Ok c =
    let passed = after-ok (c.args.strand, c.args.side) _ (sym (rw c.in-Some.ensures.1 at c.ask_table.ensures) ∙ c.in-Ok.is) in
    rw (
      c.in-Some.ensures.0,
      passed.0,
      c.entry_start.ensures,
      c.other_set.ensures.0,
      c.miss_context.ensures,
      ap (λ (p : ℕ × ℕ). p.0) passed.1,
      ap (λ (p : ℕ × ℕ). p.1) passed.1,
      c.in-Some.ensures.1,
    )
