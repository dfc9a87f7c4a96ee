-- `miss_handler::hand_back` meets its contract: an empty part of number 1 and of a refusal, else the entry's.
use Prim.Native.Nat.{ℕ}
use mathlib.Core.Path.{sym, ap, ◌∙◌}
use Rattle.machine.specs.Serve.{part_of}
use Rattle.questions.proofs.Asks.{after-ok, after-err}
use Rattle.miss_handler.proofs.Misses.{miss-ready, part-entry}
use Rattle.miss_handler.proofs.hand_back.Goals as goal

pub returns-in_default : goal.returns-in_default
unfolding part_of
returns-in_default c = rw c.in_default.ensures

pub returns-in-Err : goal.returns-in-Err
unfolding part_of
returns-in-Err c =
    rw (c.in-Some.ensures.0, after-err (c.args.strand, c.args.side) _ (sym (rw c.in-Some.ensures.1 at c.ask_table.ensures) ∙ c.in-Err.is))

pub entry_of-requires : goal.entry_of-requires
entry_of-requires c =
    let passed = after-ok (c.args.strand, c.args.side) _ (sym (rw c.in-Some.ensures.1 at c.ask_table.ensures) ∙ c.in-Ok.is) in
    rw (ap (λ (p : ℕ × ℕ). p.0) passed.1, ap (λ (p : ℕ × ℕ). p.1) passed.1, c.in-Some.ensures.1) (miss-ready _ _ _ _ _ c.in-Some.ensures.0 passed.0)

pub returns-in-Ok : goal.returns-in-Ok
unfolding part_of
returns-in-Ok c =
    let passed = after-ok (c.args.strand, c.args.side) _ (sym (rw c.in-Some.ensures.1 at c.ask_table.ensures) ∙ c.in-Ok.is) in
    rw (c.in-Some.ensures.0, passed.0, part-entry)
    (rw (ap (λ (p : ℕ × ℕ). p.0) passed.1, ap (λ (p : ℕ × ℕ). p.1) passed.1, c.in-Some.ensures.1) at c.entry_of.ensures.bytes)
