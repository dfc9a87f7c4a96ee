-- What a removal asks of a slot before anything else. None of this is in a promise of `remove`.
-- Assumes nothing.
use Rattle.std.specs.Prelude.{ℕ, ◌*◌, ◌^◌, ◌≤◌, ◌<◌, ◌≡◌, Bool, true, false, List, leb, get_or, length, replicate}
use Rattle.std.specs.Int.Bits.{bit_xor}
use Rattle.machine.specs.Slots.{size_code, slot_of}
use Rattle.machine.specs.declared.Slot.{Slot}
use Rattle.machine.specs.declared.Removal.{Removal}
use Rattle.machine.specs.Insertion.{removes}
use Rattle.tlb.specs.Tables.{spans_of}
use Rattle.tlb_update.specs.declared.Sieve.{Sieve}
use Rattle.tlb_update.specs.declared.Sieve.TheVariants.{Pages, Owners}

-- the larger of the sieve's size and each page size, by size code; a sieve of owners asks none
unfoldable pub spans_for : Sieve → List ℕ
spans_for (Pages page size) = spans_of size
spans_for (Owners owner spread) = replicate 16 0

-- page or owner is near enough
unfoldable pub passes : Sieve → Slot → Bool
passes (Pages page size) x = leb (bit_xor page x.page) (get_or (spans_of size) (size_code x) 0)
passes (Owners owner spread) x = leb (bit_xor owner x.owner) spread

-- every slot that the removal takes passes, its owner and its page being 64-bit words
abbrev pub Sifts : Removal → Sieve → Type 0
Sifts which sieve = (x : Slot) → x.owner < 2 ^ 64 → x.page < 2 ^ 64 → removes which x ≡ true → passes sieve x ≡ true

-- no slot passes from the one given up to slot r
abbrev pub NonePass : Sieve → List ℕ → ℕ → ℕ → Type 0
NonePass sieve words from r = (from ≤ r) × (r * 4 ≤ length words) × ((j : ℕ) → from ≤ j → j < r → passes sieve (slot_of words j) ≡ false)
