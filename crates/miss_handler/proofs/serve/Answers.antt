-- `miss_handler::serve` meets its contract: number 1, then by the verdict, and then by what is read of the entry.
use Prim.Native.Nat.{ℕ}
use mathlib.Core.Path.{sym, ap, ◌∙◌}
use Rattle.questions.proofs.Asks.{after-ok, after-err}
use Rattle.miss_handler.proofs.Misses.{miss-ready, served-unsound, served-refused, served-passed}
use Rattle.miss_handler.proofs.serve.Goals as goal

pub returns-in_default : goal.returns-in_default
returns-in_default c =
    let u = c.in_default.ensures.cases in
    let e = served-unsound _ c.args.strand c.args.side c.args.zero.now c.args.other.now u in
    record { words = rw e; answer = rw e }

pub returns-in-Err : goal.returns-in-Err
returns-in-Err c =
    let s = c.in-Some.ensures.cases in
    let e = served-refused _ _ _ _ _ s.0 (after-err (c.args.strand, c.args.side) _ (sym (rw s.1 at c.ask_table.ensures) ∙ c.in-Err.is)) in
    record { words = rw e s.1; answer = rw e }

pub entry_of-entry-requires : goal.entry_of-entry-requires
entry_of-entry-requires c =
    let s = c.in-Some.ensures.cases in
    let passed = after-ok (c.args.strand, c.args.side) _ (sym (rw s.1 at c.ask_table.ensures) ∙ c.in-Ok.is) in
    rw (ap (λ (p : ℕ × ℕ). p.0) passed.1, ap (λ (p : ℕ × ℕ). p.1) passed.1, s.1) (miss-ready _ _ _ _ _ s.0 passed.0)

pub serve_entry-requires : goal.serve_entry-requires
serve_entry-requires c =
    let s = c.in-Some.ensures.cases in
    let passed = after-ok (c.args.strand, c.args.side) _ (sym (rw s.1 at c.ask_table.ensures) ∙ c.in-Ok.is) in
    rw s.1 (miss-ready _ _ _ _ _ s.0 passed.0).sound

pub returns-in-Ok : goal.returns-in-Ok
returns-in-Ok c =
    let s = c.in-Some.ensures.cases in
    let passed = after-ok (c.args.strand, c.args.side) _ (sym (rw s.1 at c.ask_table.ensures) ∙ c.in-Ok.is) in
    let e = served-passed _ _ _ _ _ s.0 passed.0 in
    let did =
    rw (
      c.eight_bytes-word.ensures,
      c.eight_bytes-tag.ensures,
      c.entry_of-entry.ensures.bytes,
      ap (λ (p : ℕ × ℕ). p.0) passed.1,
      ap (λ (p : ℕ × ℕ). p.1) passed.1,
      s.1,
    ) at c.serve_entry.ensures in
    record { words = rw e did.words; answer = rw e did.answer }
