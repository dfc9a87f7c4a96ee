-- `mmu_stream::line_of` meets its contract: two places more for each byte, and the line end stays.
use Prim.Native.Nat.{ℕ, ◌+◌, ◌*◌, ◌<◌}
use mathlib.Core.Path.{◌≡◌, ◌∙◌, sym, ap}
use mathlib.Core.List.{List}
use native.Mathlib.Omega.{arith}
use lib.Dec.{eqb}
use lib.ListN.{length, length-set, get_or, set}
use lib.Seq.{get_or-set_other}
use borrow.Author.Tests.{eqb-true, eqb-false}
use borrow.Author.Rules.{rules}
use Rattle.laws.proofs.Bools.{by-test}
use Rattle.mmu_stream.specs.Line.{line_at}
use Rattle.mmu_stream.proofs.Laws.{filled_more, high-digit, low-digit, last-place, line-ascii, table-all}
use Rattle.mmu_stream.proofs.line_of.Goals as goal

pub loop-i-preserved : goal.loop-i-preserved
loop-i-preserved c =
    let s = c.args.answer.now in
    let i = c.loop-i.i in
    let v = c.digit.result in
    let w = c.digit-in-loop-i.result in
    let first : List ℕ = set c.loop-i.line (2 * i) v in
    let there : i < 24 = omega arith in
    let long : length first ≡ 49 = length-set c.loop-i.line (2 * i) v ∙ c.loop-i.invariant.0 in
    let one : (k : ℕ) → k < 2 * i + 1 → get_or first k 0 ≡ line_at s 0 k
    = filled_more (line_at s 0) c.loop-i.line (2 * i) v (omega arith) (c.digit.ensures ∙ sym (high-digit s i there)) c.loop-i.invariant.2 in (
      length-set first (2 * i + 1) w ∙ long,
      get_or-set_other first (2 * i + 1) 48 w 0 (λ e. omega arith) ∙ (get_or-set_other c.loop-i.line (2 * i) 48 v 0 (λ e. omega arith) ∙ c.loop-i.invariant.1),
      λ k h. filled_more (line_at s 0) first (2 * i + 1) w (omega arith) (c.digit-in-loop-i.ensures ∙ sym (low-digit s i there)) one k (omega arith),
    )

pub returns : goal.returns
returns c =
    let s = c.args.answer.now in
    let all : c.loop-i.i ≡ 24 = omega arith in
    let line = table-all (line_at s 0) c.loop-i.line 49 c.loop-i.invariant.0
    (λ k h. by-test (eqb k 48)
    (λ t. ap (λ n. get_or c.loop-i.line n 0) (eqb-true k 48 t) ∙ (c.loop-i.invariant.1 ∙ (sym (last-place s) ∙ ap (line_at s 0) (sym (eqb-true k 48 t)))))
    (λ t.
    let other = eqb-false k 48 t in
    c.loop-i.invariant.2 k (omega arith))) in record {
      line = line;
      ascii = rw line (line-ascii s (search rules));
    }
