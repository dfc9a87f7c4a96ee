-- `tlb::search_starts` meets its contract. The invariant: the slots up to turn k are passed.
use Rattle.std.proofs.Common.{◌≡◌, ◌+◌, ◌*◌, ◌/◌, ◌<◌, [], length, get_or, sym, refl, arith}
use Rattle.std.proofs.lemmas.List.{length-map}
use Rattle.tlb.specs.Rows.{row_slot}
use Rattle.tlb.proofs.ByRow.{turn_length, turn_split, rest_is, rows_length}
use Rattle.machine.proofs.Slots.{slots_length}
use Rattle.tlb.proofs.Seen.{turn-found, turn-past, rest-found, rest-past, found-inside}
use Rattle.tlb.proofs.search_starts.Goals as goal

pub overflow_add-result : goal.overflow_add-result
overflow_add-result c =
    let a = c.as_chunks.ensures in
    let l = turn_length c.rows.result.now _ c.rows.ensures _ a.front c.loop-k.k (omega (arith, a.front_len)) in
    let i = found-inside _ _ _ _ c.walk-walked.ensures.searched _ c.in-Some.is in
    let b : c.in-Some.i < 16 = omega (arith, l, i) in
    search arith

pub returns-in-Some : goal.returns-in-Some
returns-in-Some c =
    let a = c.as_chunks.ensures in
    let split = turn_split c.rows.result.now _ c.rows.ensures _ a.front c.loop-k.k (omega (arith, a.front_len)) in
    sym (turn-found _ _ _ _ _ c.loop-k.invariant.1 _ _ (split _ refl) _ c.walk-walked.ensures.searched _ c.in-Some.is)

pub loop-k-preserved : goal.loop-k-preserved
loop-k-preserved c =
    let a = c.as_chunks.ensures in
    let b : c.loop-k.k < length c.rows.result.now / 16 = omega (arith, a.front_len) in
    let l = turn_length c.rows.result.now _ c.rows.ensures _ a.front c.loop-k.k b in
    let e : (c.loop-k.k + 1) * 16 ≡ c.loop-k.k * 16 + 16 = omega arith in
    let split = turn_split c.rows.result.now _ c.rows.ensures _ a.front c.loop-k.k b in (
      omega (arith, c.walk-walked.ensures.few, l, c.loop-k.invariant.0, length-map (get_or c.as_chunks.result.0.now c.loop-k.k []) row_slot),
      turn-past _ _ _ _ _ c.loop-k.invariant.1 _ _ (split _ e) _ c.walk-walked.ensures.searched c.in_default.is (omega (arith, l, e)),
    )

-- all turns are done
pub overflow_add-result-in-Some-found : goal.overflow_add-result-in-Some-found
overflow_add-result-in-Some-found c =
    let a = c.as_chunks.ensures in
    let i = found-inside _ _ _ _ c.walk-last.ensures.searched _ c.in-Some-found.is in
    let b : c.in-Some-found.i < 16 = omega (arith, i, a.back_len, length-map c.as_chunks.result.1.now row_slot) in
    search arith

pub returns-in-Some-found : goal.returns-in-Some-found
returns-in-Some-found c =
    let a = c.as_chunks.ensures in
    let e : c.loop-k.k ≡ length c.rows.result.now / 16 = omega (arith, a.front_len) in
    let rest = rest_is c.rows.result.now _ c.rows.ensures _ a.front c.as_chunks.result.1.now a.back in
    rw (a.front_len) (sym (rest-found _ _ _ _ _ (rw e at c.loop-k.invariant.1) _ (rw rest at c.walk-last.ensures.searched) _ c.in-Some-found.is))

pub returns : goal.returns
returns c =
    let a = c.as_chunks.ensures in
    let e : c.loop-k.k ≡ length c.rows.result.now / 16 = omega (arith, a.front_len) in
    let rest = rest_is c.rows.result.now _ c.rows.ensures _ a.front c.as_chunks.result.1.now a.back in
    sym (rest-past _ _ _ _ _ (rw e at c.loop-k.invariant.1) _ (rw rest at c.walk-last.ensures.searched)
    (omega (arith, rows_length c.rows.result.now _ c.rows.ensures, slots_length c.args.slots.now)) c.in_default-found.is)
