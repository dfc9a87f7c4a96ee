-- A walk that empties the slots that a test takes, and counts them. Assumes nothing.
use Prim.Native.Nat.{ℕ, zero, suc, ◌+◌, ◌/◌, ◌%◌, ◌≤◌, ◌<◌}
use mathlib.Core.Path.{◌≡◌, ap, subst, ◌∙◌}
use mathlib.Core.Bool.{Bool, false}
use mathlib.Core.List.{List}
use native.Mathlib.Omega.{arith}
use lib.Dec.{eqb}
use lib.ListN.{length, drop}
use borrow.Author.Tests.{eqb-true, eqb-false}
use Rattle.laws.proofs.Bools.{by-test}
use Rattle.laws.specs.Tests.{tick, count}
use Rattle.laws.proofs.Walks.{count-step}
use Rattle.machine.specs.declared.Slot.{Slot}
use Rattle.machine.specs.Slots.{slots_of, slot_of, no_slot, on_slot}
use Rattle.machine.specs.Insertion.{emptied_by}
use Rattle.machine.proofs.Slots.{slots_length, same-slot, replaced, replace-start, replace-turn, replace-length, replace-read}

module _ (p : Slot → Bool) (l : List ℕ) where
  -- the first i slots are emptied where the test takes them, the others are as they were, and those taken so far with those from i on are all that it takes
  abbrev pub Walked : ℕ → List ℕ → ℕ → Type 0
  Walked i slots taken =
      (i ≤ length l / 4)
      × (slots ≡ replaced (emptied_by p) i l)
      × (taken + count p (drop i (slots_of l)) ≡ count p (slots_of l))

  pub walked-length : (i taken : ℕ) (slots : List ℕ) → length l % 4 ≡ 0 → Walked i slots taken → length slots ≡ length l
  walked-length i taken slots h w = ap length w.1 ∙ replace-length (emptied_by p) l i h

  -- a turn that empties slot i where the test takes it
  pub walked-turn : (i taken : ℕ) (slots : List ℕ) {slots' : List ℕ} {taken' : ℕ} → i < length l / 4 → Walked i slots taken
      → slots' ≡ on_slot (emptied_by p) i slots → taken' ≡ taken + tick (p (slot_of slots i)) → Walked (i + 1) slots' taken'
  walked-turn i taken slots h w e t =
      let read : slot_of slots i ≡ slot_of l i = ap (λ (k : List ℕ). slot_of k i) w.1 ∙ replace-read (emptied_by p) l i in
      let one = t ∙ ap (λ (x : Slot). taken + tick (p x)) read in (
        omega arith,
        e ∙ ap (on_slot (emptied_by p) i) w.1 ∙ replace-turn (emptied_by p) l i h,
        omega (arith, one, w.2, count-step no_slot (slots_of l) i p (omega (arith, slots_length l))),
      )

  -- a turn that leaves a slot that the test does not take
  walked-past : (i taken : ℕ) (slots : List ℕ) → length l % 4 ≡ 0 → i < length l / 4 → Walked i slots taken → p (slot_of slots i) ≡ false
      → Walked (i + 1) slots taken
  walked-past i taken slots z h w n =
      walked-turn i taken slots h w (rw n (same-slot slots i (omega (arith, h, walked-length i taken slots z w)))) (rw n (omega arith))

  -- the slots up to r, none of which the test takes
  pub walked_on : (r i taken : ℕ) (slots : List ℕ) → length l % 4 ≡ 0 → i ≤ r → r ≤ length l / 4 → ((j : ℕ) → i ≤ j → j < r → p (slot_of slots j) ≡ false)
      → Walked i slots taken → Walked r slots taken
  walked_on zero i taken slots z a b n w = subst (λ (k : ℕ). Walked k slots taken) (omega arith) w
  walked_on (suc r) i taken slots z a b n w =
      by-test (eqb i (suc r))
      (λ e. subst (λ (k : ℕ). Walked k slots taken) (eqb-true i (suc r) e) w)
      (λ e.
      let u : i ≤ r = omega (arith, eqb-false i (suc r) e) in
      subst (λ (k : ℕ). Walked k slots taken) (omega arith)
      (walked-past r taken slots z (omega arith) (walked_on r i taken slots z u (omega arith) (λ j c d. n j c (omega (arith, d))) w) (n r u (omega arith))))

  -- before the first turn
  pub walked_none : length l % 4 ≡ 0 → Walked 0 l 0
  walked_none z = (omega arith, replace-start (emptied_by p) l z, omega arith)
