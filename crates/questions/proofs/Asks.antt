-- Questions one after another: those that are left decide. Assumes nothing.
use Rattle.std.proofs.Common.{Ok, Err, Result, Some, None, Option, SomeIff, is_ok}
use Rattle.std.specs.Option.{ok_or}
use Rattle.std.specs.Result.{result_and, result_unwrap_or}
use native.Mathlib.Omega.{arith}
use Prim.Native.Nat.{ℕ, ◌<◌}
use mathlib.Core.Path.{◌≡◌, refl, sym, ap, ◌∙◌}
use mathlib.Core.Bool.{Bool, true, false, true≢false}
use mathlib.Core.List.{List, [], ◌∷◌, ◌++◌}
use borrow.Author.Tests.{lt-ltb, le-ltb}
use lib.Dec.{ltb}
use lib.ListN.{drop}
use Rattle.laws.proofs.Bools.{by-test}
use Rattle.machine.specs.State.{State}
use Rattle.machine.specs.Questions.{Question, question, asked, ask, verdict}
use Rattle.machine.specs.declared.Command.{Command}
use Rattle.machine.specs.declared.Refusal.{Refusal}

-- the questions that are left come to the verdict
pub record Left (v : Result (Unit {0}) Refusal) (qs : List Question) : Type 0 where
  pub decides : ask qs ≡ v

-- those of a command after the first k
abbrev pub After : Bool → State → Command → ℕ → Type 0
After hv u c k = Left (verdict hv u c) (drop k (asked hv u c))

-- before the first, all
pub every : (qs : List Question) → Left (ask qs) qs
every qs = record { decides = refl }

pub all : (hv : Bool) (u : State) (c : Command) → Left (verdict hv u c) (asked hv u c)
unfolding verdict
all hv u c = every (asked hv u c)

module _ {v : Result (Unit {0}) Refusal} {r : Refusal} {b : Bool} {qs : List Question} where
  -- a "yes" leaves those behind it
  pub yes : Left v (question r b ∷ qs) → b ≡ true → Left v qs
  unfolding ask
  yes l e = record { decides = rw e at l.decides }

  -- a "no" refuses
  pub no : Left v (question r b ∷ qs) → b ≡ false → Err r ≡ v
  unfolding ask
  no l e = rw e at l.decides

-- after the last, none
pub none : {v : Result (Unit {0}) Refusal} → Left v [] → (Ok tt) ≡ v
unfolding ask
none l = l.decides

-- the first questions decide unless they passed
both : (qs rest : List Question) → ask (qs ++ rest) ≡ result_and (ask qs) (ask rest)
unfolding ask
both [] rest = refl
both (q ∷ qs) rest = by-test q.fine (λ t. rw t (both qs rest)) (λ t. rw t)

-- what a value tells of the questions that it comes after
module _ {T : Type 0} (x : T) where
  pub after-ok : (q : Result (Unit {0}) Refusal) {y : T} → result_and q (Ok x) ≡ Ok y → (q ≡ Ok tt) × (y ≡ x)
  after-ok (Ok _) e = (refl, sym (ap (λ r. result_unwrap_or r x) e))
  after-ok (Err r) e = absurd (true≢false (sym (ap is_ok e)))

  pub after-err : (q : Result (Unit {0}) Refusal) {r : Refusal} → result_and q (Ok x) ≡ Err r → q ≡ Err r
  after-err (Ok _) e = absurd (true≢false (ap is_ok e))
  after-err (Err r) e = ap (λ s. result_and s (Ok tt)) e

-- where the first questions are some that were asked, and x is handed on: if they passed ..
module _ {T : Type 0} {w : Result T Refusal} (qs : List Question) (x : T) (p : w ≡ result_and (ask qs) (Ok x)) where
  pub passed : {v : Result (Unit {0}) Refusal} {y : T} (rest : List Question) → w ≡ Ok y → Left v (qs ++ rest) → Left v rest
  passed rest e l = record { decides = sym (rw (after-ok x (ask qs) (sym p ∙ e)).0 at (both qs rest)) ∙ l.decides }

  pub kept : {y : T} → w ≡ Ok y → y ≡ x
  kept e = (after-ok x (ask qs) (sym p ∙ e)).1

  -- .. and if one was answered "no"
  pub refused : {v : Result (Unit {0}) Refusal} {r : Refusal} (rest : List Question) → w ≡ Err r → Left v (qs ++ rest) → Err r ≡ v
  refused rest e l = sym (rw (after-err x (ask qs) (sym p ∙ e)) at (both qs rest)) ∙ l.decides

-- the strand and the side that are handed on are those asked
module _ {w : Result (ℕ × ℕ) Refusal} (qs : List Question) (strand side : ℕ) (p : w ≡ result_and (ask qs) (Ok (strand, side))) {x y : ℕ} (e : w ≡ Ok (x, y)) where
  pub same-strand : x ≡ strand
  same-strand = ap (λ (z : ℕ × ℕ). z.0) (kept qs (strand, side) p e)

  pub same-side : y ≡ side
  same-side = ap (λ (z : ℕ × ℕ). z.1) (kept qs (strand, side) p e)

-- a number that is asked to be below a bound
pub asked-below : (r : Option ℕ) (n bound : ℕ) (no : Refusal) → SomeIff r (n < bound) n → ok_or r no ≡ result_and (ask (question no (ltb n bound) ∷ [])) (Ok n)
unfolding ask
asked-below (Some x) n bound no h = rw (lt-ltb _ bound h.0, h.1)
asked-below None n bound no h = rw (le-ltb n bound (omega (arith, h)))

-- what a call says of a question, as the code tests it
module _ {t b : Bool} (e : t ≡ b) where
  pub held : t ≡ true → b ≡ true
  held h = sym e ∙ h

  pub failed : t ≡ false → b ≡ false
  failed h = sym e ∙ h
