-- The line of an answer: 48 lower-case hexadecimal digits and a line end.
-- Assumes nothing.
use Rattle.std.specs.Prelude.{ℕ, zero, suc, ◌+◌, ◌/◌, ◌%◌, cond, List, [], ◌∷◌, eqb, ltb, get_or}

unfoldable pub digit_of : ℕ → ℕ
digit_of n = cond (ltb n 10) (n + 48) (n + 87)

-- place k of the line of the answer at a position
unfoldable pub line_at : List ℕ → ℕ → ℕ → ℕ
line_at output at k =
    cond (eqb k 48) 10
    (cond (eqb (k % 2) 0) (digit_of (get_or output (at + k / 2) 0 / 16)) (digit_of (get_or output (at + k / 2) 0 % 16)))

-- f k, f (k + 1), .. : n of them
unfoldable pub list_of : (ℕ → ℕ) → ℕ → ℕ → List ℕ
list_of f k zero = []
list_of f k (suc n) = f k ∷ list_of f (suc k) n
