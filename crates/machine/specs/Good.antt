-- Document 01, "Sound means" (number 1), in a second text: sound words are those of a ledger with places, whose registers and entries are as document 01 asks.
-- Assumes nothing.
use Rattle.std.specs.Prelude.{ℕ, ◌%◌, ◌≤◌, ◌<◌, ◌≡◌, Bool, true, false, cond, List, [], ◌∷◌, eqb, length, get_or}
use Rattle.laws.specs.Passing.{how_many}
use Rattle.machine.specs.Ledger.{Entry, page_bytes, address_good, word_good, overlap, register_known, value_good}
use Rattle.machine.specs.Places.{Place, empty, filled, Reference, reference_words}

-- ---- a live entry: its word passes 12, partition and context fit, a real one has context 0, its address is in range and at a page start
pub record EntryGood (e : Entry) : Type 0 where
  pub word : word_good e.word ≡ true
  pub partition : e.partition ≤ 7
  pub context : e.context ≤ 8191
  pub real : e.real ≡ true → e.context ≡ 0
  pub range : address_good e.page ≡ true
  pub start : e.page % page_bytes e.word ≡ 0

-- ---- a side of n places: none of its entries overlap
pub record SideGood (n : ℕ) (s : List Place) : Type 0 where
  pub size : length s ≡ n
  pub entries : (i : ℕ) (e : Entry) (used : Bool) → get_or s i empty ≡ filled e used → EntryGood e
  pub apart : (i j : ℕ) (e x : Entry) (a b : Bool) → i < j → get_or s i empty ≡ filled e a → get_or s j empty ≡ filled x b → overlap e x ≡ false

-- the entries of a side, lowest place first
unfoldable pub entries_in : List Place → List Entry
entries_in [] = []
entries_in (empty ∷ r) = entries_in r
entries_in (filled e used ∷ r) = e ∷ entries_in r

-- ---- the whole: a register holds what may be written to it, 20 to 25 anything, and a cell that is no register zero; the ledger lists, in whatever order, what
-- stands in the places
pub record ReferenceGood (n : ℕ → ℕ) (k : Reference) : Type 0 where
  pub registers : (strand number : ℕ) → strand < 4 → number < 32 →
      let value : ℕ = k.ledger.registers strand number in
      cond (register_known number) (value_good number value) (eqb value 0) ≡ true
  pub sides : (side : ℕ) → side < 2 → SideGood (n side) (k.places side)
  pub listed : (side : ℕ) → side < 2 → (p : Entry → Bool) → how_many p (k.ledger.entries side) ≡ how_many p (entries_in (k.places side))

-- that empty slots are zero, that the words of a live one hold its entry, its used bit and nothing more, and that a miss record has no bit but those of its
-- lookups (document 02, U5), is said by `reference_words`: any list of lookups will do
abbrev pub GoodWords : (ℕ → ℕ) → List ℕ → Type 0
GoodWords n words = (k : Reference) × ReferenceGood n k × (words ≡ reference_words k)
