-- How contracts on lent words are said.
-- Assumes nothing.
use Rattle.std.specs.Prelude.{ℕ, ◌+◌, ◌≡◌, true, List, get_or, set}
use Rattle.machine.specs.Record.{Records}
use Rattle.machine.specs.State.{counts, state_in, encode, side_of, with_side, with_records, sound}
use Rattle.machine.specs.Access.{Stepped}
use Rattle.machine.specs.declared.Slot.{Slot}
use Rattle.machine.specs.declared.Answer.{Answer}

-- the state that they hold is sound
abbrev pub SoundIn : List ℕ → Type 0
SoundIn words = sound counts (state_in words) ≡ true

-- the words with f done to the slots of a side
abbrev pub on_side : (List Slot → List Slot) → ℕ → List ℕ → List ℕ
on_side f side words = encode (with_side (state_in words) side (f (side_of (state_in words) side)))

-- the words with f done to the miss records
abbrev pub on_records : (Records → Records) → List ℕ → List ℕ
on_records f words = encode (with_records (state_in words) (f (state_in words).records))

-- a lookup that was put into a record as a hit was a miss
unfoldable pub miss_noted : ℕ → Records → Records
miss_noted r x = record { seen = x.seen; newest = set x.newest r (get_or x.newest r 0 + 1); older = x.older }

-- the words left and the answer given are those of a step
pub record Did (left : List ℕ) (given : Answer) (s : Stepped) : Type 0 where
  pub words : left ≡ encode s.state
  pub answer : given ≡ s.answer
