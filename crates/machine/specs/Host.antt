-- What header and paper tell a host beside the calls: that it may write a mode into its word, how a state of before is converted, and what a rate is at its ends.
-- In the words of ledger and places.
-- Assumes nothing.
use Rattle.std.specs.Prelude.{ℕ, ◌+◌, ◌*◌, ◌/◌, ◌%◌, ◌≤◌, ◌<◌, ◌≡◌, Bool, List, ◌++◌, length, set, replicate}
use Rattle.laws.specs.Passing.{how_many}
use Rattle.machine.specs.Ledger.{writes, thousandths}
use Rattle.machine.specs.Places.{Reference, side_words, row, reference_words}
use Rattle.machine.specs.Good.{ReferenceGood, GoodWords}

-- ---- a mode
-- the ledger with that mode; the places stay
abbrev pub with_mode : Reference → ℕ → ℕ → Reference
with_mode k strand mode = record { ledger = writes k.ledger strand 3 mode; places = k.places }

-- ---- a state of version 1 or 2: it has no miss records
abbrev pub words_before : Reference → List ℕ
words_before k = row (λ i. k.ledger.registers (i / 32) (i % 32)) 128 ++ (side_words (k.places 0) ++ side_words (k.places 1))

abbrev pub GoodBefore : (ℕ → ℕ) → List ℕ → Type 0
GoodBefore n words = (k : Reference) × ReferenceGood n k × (words ≡ words_before k)

pub record HostTold (n : ℕ → ℕ) : Type 0 where
  -- a mode of 0 to 2, written between calls into word 32 × strand + 3: the words are those of the ledger with that mode, and sound
  pub modes : (k : Reference) → ReferenceGood n k → (strand mode : ℕ) → strand < 4 → mode ≤ 2
      → (set (reference_words k) (32 * strand + 3) mode ≡ reference_words (with_mode k strand mode)) × ReferenceGood n (with_mode k strand mode)
  -- with 136 zeros behind it a state of before is sound if it was
  pub older : (words : List ℕ) → GoodBefore n words → GoodWords n (words ++ replicate 136 0)
  -- of one lookup or more: where none missed the rate is 0, where all did 1000
  pub none : (m : List Bool) → 1 ≤ length m → how_many (λ missed. missed) m ≡ 0 → thousandths m ≡ 0
  pub all : (m : List Bool) → 1 ≤ length m → how_many (λ missed. missed) m ≡ length m → thousandths m ≡ 1000
