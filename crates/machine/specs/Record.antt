-- Document 02, U5: the miss record of each strand and side, and the rate that it gives.
-- Assumes nothing.
use Rattle.std.specs.Prelude.{ℕ, zero, suc, ◌+◌, ◌*◌, ◌-◌, ◌/◌, ◌%◌, ◌^◌, min, Bool, cond, ◌&&◌, List, ◌∷◌, ◌++◌, eqb, ltb, length, get_or, set, take, drop, replicate}
use Rattle.std.specs.Int.Count.{ones}
use Rattle.laws.specs.Tests.{all_below}

-- the outcomes of the last 1,024 lookups of each: sixteen words of 64, a set bit for a miss. The word that is filled is apart from the fifteen older ones
pub record Records : Type 0 where
  pub seen : List ℕ
  pub newest : List ℕ
  pub older : List ℕ

-- one for either side of four strands
abbrev pub record_count : ℕ
record_count = 8

abbrev pub record_of : ℕ → ℕ → ℕ
record_of strand side = strand * 2 + side

-- where the older words of a record begin, and the words
abbrev pub older_start : ℕ → ℕ
older_start r = r * 15

abbrev pub older_of : List ℕ → ℕ → List ℕ
older_of older r = take 15 (drop (older_start r) older)

abbrev pub with_older : List ℕ → ℕ → List ℕ → List ℕ
with_older older r words = take (older_start r) older ++ (words ++ drop 15 (drop (older_start r) older))

-- ---- a lookup is noted
-- where the newest word is full, it becomes the first of the older ones, and the last of them is filled anew. Of more than 1,024 lookups a word's are taken off
unfoldable pub turned : ℕ → Records → Records
turned r x =
    let n : ℕ = get_or x.seen r 0 in
    let old : List ℕ = older_of x.older r in
    record {
      seen = set x.seen r (cond (ltb 1024 n) (n - 64) n);
      newest = set x.newest r (get_or old 14 0);
      older = with_older x.older r (get_or x.newest r 0 ∷ take 14 old);
    }

-- an outcome goes in at the low end; what it drives out at the high end is 1,024 lookups old
unfoldable pub pushed : ℕ → ℕ → ℕ
pushed word missed = word % 2 ^ 63 * 2 + missed

unfoldable pub put : ℕ → ℕ → Records → Records
put r missed x = record {
  seen = set x.seen r (get_or x.seen r 0 + 1);
  newest = set x.newest r (pushed (get_or x.newest r 0) missed);
  older = x.older;
}

abbrev pub noted : ℕ → ℕ → Records → Records
noted r missed x = put r missed (cond (eqb (get_or x.seen r 0 % 64) 0) (turned r x) x)

-- ---- the rate
-- how many lookups are kept
abbrev pub kept : ℕ → ℕ
kept n = min n 1024

-- the set bits of the first k words
unfoldable pub ones_of : List ℕ → ℕ → ℕ
ones_of words zero = 0
ones_of words (suc k) = ones_of words k + ones (get_or words k 0)

abbrev pub misses_of : Records → ℕ → ℕ
misses_of x r = ones (get_or x.newest r 0) + ones_of (older_of x.older r) 15

-- so many of a thousand, rounded down
unfoldable pub per_thousand : ℕ → ℕ → ℕ
per_thousand part whole = part * 1000 / whole

unfoldable pub miss_rate : Records → ℕ → ℕ
miss_rate x r = per_thousand (misses_of x r) (kept (get_or x.seen r 0))

-- ---- reset and soundness
abbrev pub no_records : Records
no_records = record { seen = replicate record_count 0; newest = replicate record_count 0; older = replicate (older_start record_count) 0 }

-- the outcomes in the newest word: a full one has 64
abbrev pub newest_bits : ℕ → ℕ
newest_bits n = cond (ltb 1024 n) 64 (n - (n - 1) / 64 * 64)

-- an older word is in use once there are more lookups than fill it and those before it
abbrev pub older_sound : ℕ → List ℕ → Bool
older_sound n old = all_below (λ j. ltb (get_or old j 0) (cond (ltb (64 * (j + 1)) n) (2 ^ 64) 1)) 15

-- no bit is set that no lookup kept has
unfoldable pub record_sound : ℕ → ℕ → List ℕ → Bool
record_sound n word old = ltb n 1089 && (ltb word (2 ^ newest_bits n) && older_sound n old)

unfoldable pub records_sound : Records → Bool
records_sound x =
    eqb (length x.seen) record_count
    && (eqb (length x.newest) record_count
    && (eqb (length x.older) (older_start record_count)
    && all_below (λ r. record_sound (get_or x.seen r 0) (get_or x.newest r 0) (older_of x.older r)) record_count))
