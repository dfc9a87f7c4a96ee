-- `tlb_update::remove` meets its contract. The invariant is that of `Walked`.
use Prim.Native.Nat.{ℕ, ◌<◌, ◌/◌, ◌+◌}
use mathlib.Core.Path.{ap, ◌≡◌, ◌∙◌}
use native.Mathlib.Omega.{arith}
use lib.ListN.{length}
use Rattle.laws.specs.Tests.{tick}
use Rattle.machine.specs.declared.Slot.{Slot}
use mathlib.Core.Bool.{Bool}
use mathlib.Core.List.{List}
use Rattle.laws.proofs.Counts.{count-rest}
use Rattle.laws.proofs.Walks.{count-end}
use Rattle.machine.specs.Slots.{slot_of, on_slot, slots_of, no_slot}
use Rattle.machine.specs.Insertion.{emptied_by, removes}
use Rattle.machine.proofs.Slots.{slots_length, replace-end}
use Rattle.tlb_update.proofs.Sifted.{none-taken}
use Rattle.tlb_update.proofs.Walked.{Walked, walked-length, walked-turn, walked_on, walked_none}
use borrow.Author.Rules.{rules}
use Rattle.tlb_update.proofs.remove.Goals as goal

-- slot i is emptied where the removal takes it, and counted
turn : (p : Slot → Bool) (l : List ℕ) (i taken : ℕ) (slots : List ℕ) {new : List ℕ} {one : ℕ} → i < length l / 4 → Walked p l i slots taken
    → new ≡ on_slot (emptied_by p) i slots → one ≡ tick (p (slot_of slots i)) → Walked p l (i + 1) new (taken + one)
turn p l i taken slots h w e t = walked-turn p l i taken slots h w e (ap (λ (n : ℕ). taken + n) t)

pub next-i-requires : goal.next-i-requires
next-i-requires c = (omega arith, c.spans_of-span.ensures)

pub loop-i-init : goal.loop-i-init
loop-i-init c =
    let l = c.args.slots.now in
    let which = c.args.which in
    let none = c.next-i.ensures in
    walked_on (removes which) l c.next-i.result 0 0 l c.requires none.0 (omega (arith, none.1))
    (none-taken which c.sieve_of-sieve.result l 0 c.next-i.result (search rules) c.sieve_of-sieve.ensures none)
    (walked_none (removes which) l c.requires)

-- the length stays
pub remove_at-taken-requires : goal.remove_at-taken-requires
remove_at-taken-requires c =
    let a = c.args in
    omega (arith, walked-length (removes a.which) a.slots.now c.loop-i.i c.loop-i.taken c.loop-i.slots c.requires c.loop-i.invariant)

pub overflow_add-taken : goal.overflow_add-taken
overflow_add-taken c =
    let a = c.args in
    let l = a.slots.now in
    let r = c.remove_at-taken.ensures in
    let w = turn (removes a.which) l c.loop-i.i c.loop-i.taken c.loop-i.slots (omega arith) c.loop-i.invariant r.words r.count in
    omega (arith, w.2, count-rest (removes a.which) (slots_of l), slots_length l)

pub next-i-requires-in-loop-i : goal.next-i-requires-in-loop-i
next-i-requires-in-loop-i c =
    let a = c.args in
    let e = c.remove_at-taken.ensures in
    let w = turn (removes a.which) a.slots.now c.loop-i.i c.loop-i.taken c.loop-i.slots (omega arith) c.loop-i.invariant e.words e.count in
    (omega (arith, walked-length (removes a.which) a.slots.now _ _ _ c.requires w), c.spans_of-span.ensures)

pub loop-i-smaller : goal.loop-i-smaller
loop-i-smaller c = omega (arith, c.next-i-in-loop-i.ensures.0)

pub loop-i-preserved : goal.loop-i-preserved
loop-i-preserved c =
    let a = c.args in
    let which = a.which in
    let l = c.remove_at-taken.new.slots in
    let r = c.next-i-in-loop-i.result in
    let none = c.next-i-in-loop-i.ensures in
    let e = c.remove_at-taken.ensures in
    let w = turn (removes a.which) a.slots.now c.loop-i.i c.loop-i.taken c.loop-i.slots (omega arith) c.loop-i.invariant e.words e.count in
    walked_on (removes which) a.slots.now r (c.loop-i.i + 1) _ l c.requires none.0
    (omega (arith, none.1, walked-length (removes which) a.slots.now _ _ _ c.requires w))
    (none-taken which c.sieve_of-sieve.result l (c.loop-i.i + 1) r (search rules) c.sieve_of-sieve.ensures none)
    w

pub returns : goal.returns
returns c =
    let a = c.args in
    let l = a.slots.now in
    let p = removes a.which in record {
      words = c.loop-i.invariant.1 ∙ replace-end (emptied_by p) l _ (omega arith);
      count = omega (arith, c.loop-i.invariant.2, count-end no_slot (slots_of l) c.loop-i.i p (omega (arith, slots_length l)));
    }
