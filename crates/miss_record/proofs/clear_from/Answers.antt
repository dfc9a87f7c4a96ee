-- `miss_record::clear_from` meets its contract. The loop has joined those of the words below i that are not in use.
use Prim.Native.Nat.{◌+◌, ◌*◌}
use mathlib.Core.Path.{◌≡◌, sym, ◌∙◌}
use mathlib.Core.Bool.{◌&&◌, ◌||◌}
use native.Mathlib.Numerals.{add-one}
use native.Mathlib.Omega.{arith}
use borrow.Author.Tests.{lt-ltb, le-ltb}
use lib.Dec.{eqb, ltb}
use lib.ListN.{get_or}
use Rattle.laws.specs.Tests.{all_below}
use Rattle.laws.proofs.Belows.{below_all}
use Rattle.miss_record.proofs.Clear.{or-clear}
use Rattle.miss_record.proofs.clear_from.Goals as goal
use Rattle.miss_record.proofs.clear_from.Goals.{then-seen-i, else-seen-i}

pub loop-i-init : goal.loop-i-init
loop-i-init c = sym (below_all _ _ (λ j l. rw (lt-ltb j _ l)))

pub loop-i-preserved : goal.loop-i-preserved
unfolding all_below
loop-i-preserved c =
    let l = c.loop-i in
    let a = c.args in
    let joined : eqb c.if-seen-i.unused 0
    ≡ ((ltb l.i a.from || (ltb (64 * (l.i + 1)) a.seen || eqb (get_or a.older.now l.i 0) 0)) && eqb l.unused 0) =
    rw (le-ltb l.i a.from (omega arith))
    (elim c.if-seen-i.branch [
      | then-seen-i w ↦ rw (w.unused-is, le-ltb (64 * (l.i + 1)) a.seen (omega arith)) (or-clear l.unused _)
      | else-seen-i w ↦ rw (w.unused-is, lt-ltb (64 * (l.i + 1)) a.seen (omega arith))
    ]) in
    rw (add-one l.i) (joined ∙ rw l.invariant)

pub returns : goal.returns
returns c =
    let l = c.loop-i in
    let e : l.i ≡ 15 = omega arith in
    rw e at l.invariant
