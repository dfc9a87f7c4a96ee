-- What the functions of this crate answer. Assumes nothing.
use Rattle.std.specs.Prelude.{ℕ, ◌≡◌, Bool, List, [], ◌∷◌, ◌++◌, ltb, leb, Result}
use Rattle.machine.specs.Registers.{mode}
use Rattle.machine.specs.Permission.{least_mode}
use Rattle.machine.specs.State.{State}
use Rattle.machine.specs.Questions.{Question, question, selector_fits, verdict}
use Rattle.machine.specs.declared.Command.{Command}
use Rattle.machine.specs.declared.Refusal.TheVariants as refusal
use Rattle.machine.specs.declared.Refusal.{Refusal}

-- the verdict on a command that does not go by the stream's mark
abbrev pub Either : Result (Unit {0}) Refusal → State → Command → Type 0
Either v u c = (hv : Bool) → v ≡ verdict hv u c

-- 5, with which commands by a strand begin
abbrev pub asked_strand : ℕ → List Question
asked_strand strand = question refusal.Strand (ltb strand 4) ∷ []

-- 5 and 6, with which commands on a side begin
abbrev pub asked_side : ℕ → ℕ → List Question
asked_side strand side = question refusal.Strand (ltb strand 4) ∷ question refusal.Side (ltb side 2) ∷ []

-- and 7, with which those on a context begin
abbrev pub asked_context : ℕ → ℕ → ℕ → List Question
asked_context strand side selector = asked_side strand side ++ (question refusal.Selector (selector_fits side selector) ∷ [])

-- 5, 6 and 16, of a command that is open to guests or not
abbrev pub asked_open : List ℕ → ℕ → ℕ → Bool → List Question
asked_open file strand side guest =
    asked_side strand side ++ (question refusal.Permission (leb (least_mode guest) (mode file strand)) ∷ [])
