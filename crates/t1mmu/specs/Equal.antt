-- What a call leaves and returns, against a definition's outcome. Assumes nothing.
use Rattle.std.specs.Prelude.{ℕ, ◌≡◌, List}
use Rattle.machine.specs.Stream.{Bytes, Outcome}
use Rattle.machine.specs.declared.Report.{Report}

pub record Equal (o : Outcome) (left : List ℕ) (written : Bytes) (r : Report) : Type 0 where
  pub words : left ≡ o.words
  pub bytes : written ≡ o.output
  pub answered : r.answered ≡ o.answered
  pub taken : r.taken ≡ o.taken
  pub stop : r.stop ≡ o.stop
