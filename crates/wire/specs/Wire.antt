-- What the code reads and writes on the way to `decode_at` and `answer_bytes`: bytes that hold a command, the number of a stop, and an answer
-- as three words.
-- Assumes nothing.
use Rattle.std.specs.Prelude.{ℕ, ◌+◌, ◌*◌, ◌%◌, ◌^◌, ◌≤◌, length, Ok, Err, Result}
use Rattle.machine.specs.Stream.{Bytes, byte, width_of, stop_number, Fields}
use Rattle.wire.specs.declared.AnswerWords.{AnswerWords}
use Rattle.machine.specs.declared.Stop.{Stop}
use Rattle.machine.specs.declared.Command.{Command}
use Rattle.machine.specs.declared.Stop.TheVariants.{NoRoom}

-- ---- commands
-- bytes that begin with a command, all of it there
pub record Whole (s : Bytes) : Type 0 where
  pub known : 2 ≤ width_of (byte s 0)
  pub there : width_of (byte s 0) ≤ length s

-- the number of a decode answer that ends the run
abbrev pub stop_of : Result (Command × ℕ) Stop → ℕ
stop_of (Ok _) = 0
stop_of (Err stop) = stop_number stop

-- why a run ends at a position where there is no room for an answer: by what stands there, or for want of room where it is a command
abbrev pub full_stop_of : Result (Command × ℕ) Stop → Stop
full_stop_of (Err k) = k
full_stop_of (Ok _) = NoRoom

-- ---- answers
-- kind, a, b, c and four zeros, as one word
abbrev pub head_of : ℕ → ℕ → ℕ → ℕ → ℕ
head_of kind a b c = kind * 2 ^ 56 + a % 256 * 2 ^ 48 + b % 256 * 2 ^ 40 + c % 256 * 2 ^ 32

abbrev pub answer_words : Fields → AnswerWords
answer_words f = record { head = head_of f.kind f.a f.b f.c; first = f.first; second = f.second }
