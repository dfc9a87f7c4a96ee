-- `access::fault_of` meets its contract.
use Prim.Native.Nat.{ℕ}
use mathlib.Core.Path.{◌≡◌, sym, ◌∙◌}
use mathlib.Core.Bool.{true, not, ◌&&◌, and-false}
use native.Mathlib.Omega.{arith}
use lib.Dec.{eqb}
use borrow.Author.Tests.{eqb-true, not-true}
use Rattle.laws.proofs.Bools.{and_left, and_right}
use Rattle.machine.specs.Words.{bits}
use Rattle.machine.specs.Access.{fault_type}
use Rattle.access.specs.Faults.{is_set, faultless}
use Rattle.access.proofs.fault_of.Goals as goal

-- a word that is found faultless earns nothing
none : (mode kind word : ℕ) → faultless word ≡ true → fault_type mode kind word ≡ 0
unfolding fault_type
none mode kind word h =
    let i : (not (is_set word 11) && (not (is_set word 8) && is_set word 10)) ≡ true = and_right (not (is_set word 62)) _ h in
    let j : (not (is_set word 8) && is_set word 10) ≡ true = and_right (not (is_set word 11)) _ i in
    let cp : bits 10 1 word ≡ 1 = eqb-true _ _ (and_right (not (is_set word 8)) (is_set word 10) j) in
    rw (
      not-true (is_set word 8) (and_left (not (is_set word 8)) (is_set word 10) j),
      not-true (is_set word 11) (and_left (not (is_set word 11)) _ i),
      not-true (is_set word 62) (and_left (not (is_set word 62)) _ h),
      cp,
      and-false (eqb kind 3),
      and-false (eqb kind 4),
    )

pub returns-then-is_faultless : goal.returns-then-is_faultless
returns-then-is_faultless c =
    record {
      fault = sym (none _ _ _ (sym c.is_faultless.ensures ∙ c.if-is_faultless.true));
      small = omega arith;
    }

pub returns : goal.returns
unfolding fault_type
returns c =
    record {
      fault = rw (
        c.share-privileged.ensures.sum,
        c.bit_of.ensures,
        c.share-side_effect.ensures.sum,
        c.bit_of-2.ensures,
        c.share-uncached.ensures.sum,
        c.bit_of-3.ensures,
        c.share-no_fault_only.ensures.sum,
        c.bit_of-4.ensures,
      );
      small = omega arith;
    }
