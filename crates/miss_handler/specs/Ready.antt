-- What a miss that passed its questions has: 1 and 14 as facts, and its 16 bytes.
-- Assumes nothing.
use Rattle.std.specs.Prelude.{ℕ, ◌≡◌, List, length, take, drop}
use Rattle.machine.specs.State.{state_in}
use Rattle.machine.specs.Stream.{Bytes}
use Rattle.machine.specs.Serve.{table_used, table_length, entry_start}
use Rattle.state.specs.Calls.{SoundIn}

pub record Ready (words : List ℕ) (strand side : ℕ) (of_zero of_other : Bytes) : Type 0 where
  pub sound : SoundIn words
  pub table : length (table_used (state_in words).registers strand side of_zero of_other) ≡ table_length (state_in words).registers strand side

abbrev pub entry_bytes : List ℕ → ℕ → ℕ → Bytes → Bytes → Bytes
entry_bytes file strand side of_zero of_other = take 16 (drop (entry_start file strand side) (table_used file strand side of_zero of_other))
