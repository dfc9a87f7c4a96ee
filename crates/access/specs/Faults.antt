-- Words that earn no access a fault type.
-- Assumes nothing.
use Rattle.std.specs.Prelude.{ℕ, Bool, not, ◌&&◌, eqb}
use Rattle.machine.specs.Words.{bits}

abbrev pub is_set : ℕ → ℕ → Bool
is_set word k = eqb (bits k 1 word) 1

-- nfo, e and p are 0 and cp is 1
abbrev pub faultless : ℕ → Bool
faultless word = not (is_set word 62) && (not (is_set word 11) && (not (is_set word 8) && is_set word 10))
