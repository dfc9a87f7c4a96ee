-- Document 01, "Registers": numbers, the values that they may hold, and where they stand.
-- Assumes nothing.
use Rattle.std.specs.Prelude.{ℕ, zero, suc, ◌+◌, ◌*◌, ◌/◌, ◌%◌, ◌^◌, Bool, true, false, cond, ◌&&◌, List, [], ◌∷◌, eqb, ltb, length, get_or, set}
use Rattle.laws.specs.Tests.{all_below}
use Rattle.machine.specs.Pages.{listed}
use Rattle.machine.specs.Words.{bits}
use Rattle.machine.specs.declared.VirtualAddress.{VirtualAddress}

-- ---- the register file: 32 cells for each of four strands
abbrev pub register_words : ℕ
register_words = 128

abbrev pub cell : ℕ → ℕ → ℕ
cell strand number = strand * 32 + number

abbrev pub register : List ℕ → ℕ → ℕ → ℕ
register file strand number = get_or file (cell strand number) 0

abbrev pub with_register : List ℕ → ℕ → ℕ → ℕ → List ℕ
with_register file strand number value = set file (cell strand number) value

-- ---- registers by number
abbrev pub partition : List ℕ → ℕ → ℕ
partition file strand = register file strand 0

abbrev pub mode : List ℕ → ℕ → ℕ
mode file strand = register file strand 3

-- register 4 has a bit for each side
abbrev pub translates : List ℕ → ℕ → ℕ → Bool
translates file strand side = eqb (bits side 1 (register file strand 4)) 1

abbrev pub address_mask : List ℕ → ℕ → ℕ
address_mask file strand = register file strand 5

-- a TSB base, 8 to 15: by side, then by whether the context is zero, then by page size (0 is ps0, 1 is ps1)
abbrev pub base_number : ℕ → ℕ → ℕ → ℕ
base_number side context size = 8 + 4 * side + 2 * cond (eqb context 0) 0 1 + size

-- a TSB configuration, 16 to 19: by side, then by whether the context is zero
abbrev pub configuration_number : ℕ → ℕ → ℕ
configuration_number side context = 16 + 2 * side + cond (eqb context 0) 0 1

abbrev pub tag_number : ℕ → ℕ
tag_number side = 20 + side

-- tag access: a context in the low 13 bits, an address in those above
abbrev pub tag_access : List ℕ → ℕ → ℕ → ℕ
tag_access file strand side = register file strand (tag_number side)

abbrev pub tag_of : ℕ → ℕ → ℕ
tag_of address context = address / 2 ^ 13 * 2 ^ 13 + context

abbrev pub tag_address : ℕ → VirtualAddress
tag_address tag = record { 0 = tag / 2 ^ 13 * 2 ^ 13 }

abbrev pub tag_context : ℕ → ℕ
tag_context tag = tag % 2 ^ 13

abbrev pub fault_address_number : ℕ → ℕ
fault_address_number side = 22 + side

-- it holds the trap as one number: 256 × its number, and its fault type
abbrev pub fault_number : ℕ → ℕ
fault_number side = 24 + side

-- the context of a selector: 2 is the nucleus, whose context is 0; 1 asks for the secondary one, 0 for the primary one
abbrev pub selected : List ℕ → ℕ → ℕ → ℕ
selected file strand selector = cond (eqb selector 2) 0 (register file strand (cond (eqb selector 1) 2 1))

-- ---- numbers and values, by ranges from below
-- 0 to 5 and 8 to 25
unfoldable pub known : ℕ → Bool
known number = cond (ltb number 6) true (cond (ltb number 8) false (ltb number 26))

-- 22 to 25 are read only
unfoldable pub writable : ℕ → Bool
writable number = ltb number 22 && known number

-- a TSB base: bits 4 to 12 are clear; N stands below them
unfoldable pub base_allowed : ℕ → Bool
base_allowed value = eqb (bits 4 9 value) 0

-- a TSB configuration: a size code of ps0 at bit 0 and one of ps1 at bit 8, both with a page, and no other bit
unfoldable pub configuration_allowed : ℕ → Bool
configuration_allowed value = listed (value % 2 ^ 3) && (listed (bits 8 3 value) && (eqb (bits 3 5 value) 0 && eqb (value / 2 ^ 11) 0))

-- the value that a register may hold; a cell that is no register holds 0
unfoldable pub allowed : ℕ → ℕ → Bool
allowed number value =
    cond (ltb number 1) (ltb value 8)
    (cond (ltb number 3) (ltb value 8192)
    (cond (ltb number 4) (ltb value 3)
    (cond (ltb number 5) (ltb value 4)
    (cond (ltb number 6) (ltb value 2)
    (cond (ltb number 8) (eqb value 0)
    (cond (ltb number 16) (base_allowed value)
    (cond (ltb number 20) (configuration_allowed value)
    (cond (ltb number 26) true
    (eqb value 0)))))))))

-- "Sound means", of registers: each cell holds what it may; 20 to 25 may hold anything
unfoldable pub registers_sound : List ℕ → Bool
registers_sound file = eqb (length file) register_words && all_below (λ i. allowed (i % 32) (get_or file i 0)) register_words

-- reset: each strand in mode 2, its other registers 0; as many strands as the number given
unfoldable pub reset_strands : ℕ → List ℕ
reset_strands zero = []
reset_strands (suc n) =
    0 ∷ 0 ∷ 0 ∷ 2 ∷ 0 ∷ 0 ∷ 0 ∷ 0 ∷ 0 ∷ 0 ∷ 0 ∷ 0 ∷ 0 ∷ 0 ∷ 0 ∷ 0 ∷ 0 ∷ 0 ∷ 0 ∷ 0 ∷ 0 ∷ 0 ∷ 0 ∷ 0 ∷ 0 ∷ 0 ∷ 0 ∷ 0 ∷ 0 ∷ 0 ∷ 0 ∷ 0 ∷ reset_strands n

abbrev pub reset_registers : List ℕ
reset_registers = reset_strands 4
