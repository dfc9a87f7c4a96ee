-- Tests as facts. Assumes nothing.
use mathlib.Core.Path.{◌≡◌, refl, sym, ◌∙◌}
use mathlib.Core.Bool.{Bool, true, false, not, ◌&&◌, ◌||◌, true≢false}
use borrow.Author.Tests.{not-true, not-false}

-- a case split on a test that keeps its equation
pub by-test : {C : Type 0} (b : Bool) → (b ≡ true → C) → (b ≡ false → C) → C
by-test true f g = f refl
by-test false f g = g refl

pub clash : {C : Type 0} {b : Bool} → b ≡ true → b ≡ false → C
clash e f = absurd (true≢false (sym e ∙ f))

-- two tests are equal where each implies the other
pub both_ways : (a b : Bool) → (a ≡ true → b ≡ true) → (b ≡ true → a ≡ true) → a ≡ b
both_ways true b f g = sym (f refl)
both_ways false true f g = g refl
both_ways false false f g = refl

pub and_both : (a b : Bool) → a ≡ true → b ≡ true → (a && b) ≡ true
and_both a b e f = rw (e, f)

pub and_left : (a b : Bool) → (a && b) ≡ true → a ≡ true
and_left true b e = refl
and_left false b e = e

pub and_right : (a b : Bool) → (a && b) ≡ true → b ≡ true
and_right true b e = e
and_right false b e = clash e refl

pub or_left : (a b : Bool) → (a || b) ≡ false → a ≡ false
or_left true b e = clash refl e
or_left false b e = refl

pub or_right : (a b : Bool) → (a || b) ≡ false → b ≡ false
or_right true b e = clash refl e
or_right false b e = e

-- the second holds where the first does not
pub or-other : (a b : Bool) → (a || b) ≡ true → a ≡ false → b ≡ true
or-other true b e f = clash refl f
or-other false b e f = e

-- a result that denies a test, read back
pub denies-true : {r b : Bool} → r ≡ not b → r ≡ true → b ≡ false
denies-true {r} {b} p q = not-true b (sym p ∙ q)

pub denies-false : {r b : Bool} → r ≡ not b → r ≡ false → b ≡ true
denies-false {r} {b} p q = not-false b (sym p ∙ q)
