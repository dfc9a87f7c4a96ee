-- `miss_handler::ask_table` meets its contract, question by question.
use Rattle.std.proofs.Common.{Ok, Result}
use Rattle.std.proofs.lemmas.Result.{err_from_is_err_and}
use Rattle.std.specs.Result.{result_and}
use Prim.Native.Nat.{ℕ}
use mathlib.Core.Path.{◌≡◌}
use mathlib.Core.Bool.{Bool}
use mathlib.Core.List.{List}
use borrow.Author.Tests.{eq-eqb, ne_eqb}
use lib.Dec.{eqb}
use lib.ListN.{length, drop}
use Rattle.machine.specs.State.{State, state_in}
use Rattle.machine.specs.Questions.{ask}
use Rattle.machine.specs.Stream.{Bytes}
use Rattle.machine.specs.Serve.{table_used, table_length, asked_table}
use Rattle.machine.specs.declared.Refusal.{Refusal}
use Rattle.questions.specs.Verdicts.{asked_side}
use Rattle.questions.proofs.Asks.{Left, every, yes, no, none, passed, same-strand, same-side, refused}
use Rattle.miss_handler.proofs.ask_table.Goals as goal

-- the code asks of the table what the definition asks
table : (words : List ℕ) (strand side : ℕ) (zero other : Bytes) (used : Bytes) (n : ℕ) {b : Bool}
    → used ≡ table_used (state_in words).registers strand side zero other
    → n ≡ table_length (state_in words).registers strand side → eqb (length used) n ≡ b →
    let file = (state_in words).registers in
    eqb (length (table_used file strand side zero other)) (table_length file strand side) ≡ b
table words strand side zero other used n p q e = rw (p, q) at e

-- what is left once 5 and 6 passed
left-2 : {w : Result (ℕ × ℕ) Refusal} {y : ℕ × ℕ} (u : State) (strand side : ℕ) (zero other : Bytes)
    → w ≡ result_and (ask (asked_side strand side)) (Ok (strand, side)) → w ≡ Ok y →
    let qs = asked_table u strand side zero other in
    Left (ask qs) (drop 2 qs)
unfolding asked_table
left-2 u strand side zero other p e = passed (asked_side strand side) (strand, side) p _ e (every (asked_table u strand side zero other))

pub returns-in_err-strand : goal.returns-in_err-strand
unfolding asked_table
returns-in_err-strand c =
    let a = c.args in
    let p = err_from_is_err_and c.from_residual.result c.from_residual.ensures.1 in
    let all = every (asked_table (state_in a.state.now) a.strand a.side a.zero.now a.other.now) in
    rw (p.1, p.2, ← refused (asked_side a.strand a.side) (a.strand, a.side) c.ask_side.ensures _ c.in_err-strand.was all)

pub returns-then-table-table_length : goal.returns-then-table-table_length
unfolding asked_table
returns-then-table-table_length c =
    let a = c.args in
    let s = same-strand (asked_side a.strand a.side) a.strand a.side c.ask_side.ensures c.in_ok-strand.was in
    let d = same-side (asked_side a.strand a.side) a.strand a.side c.ask_side.ensures c.in_ok-strand.was in
    let l = left-2 (state_in a.state.now) a.strand a.side a.zero.now a.other.now c.ask_side.ensures c.in_ok-strand.was in
    rw (← no l (table _ _ _ _ _ _ _ (rw (s, d) at c.table_used-table.ensures) (rw (s, d) at c.table_length.ensures) (ne_eqb _ _ c.if-table-table_length.true)))

pub returns : goal.returns
unfolding asked_table
returns c =
    let a = c.args in
    let s = same-strand (asked_side a.strand a.side) a.strand a.side c.ask_side.ensures c.in_ok-strand.was in
    let d = same-side (asked_side a.strand a.side) a.strand a.side c.ask_side.ensures c.in_ok-strand.was in
    let l = left-2 (state_in a.state.now) a.strand a.side a.zero.now a.other.now c.ask_side.ensures c.in_ok-strand.was in
    rw (
      ← none (yes l (table _ _ _ _ _ _ _ (rw (s, d) at c.table_used-table.ensures) (rw (s, d) at c.table_length.ensures) (eq-eqb _ _ c.if-table-table_length.false))),
      s,
      d,
    )
