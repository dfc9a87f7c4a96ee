-- Document 01, "The stream", its paragraph on pointers: where in a TSB the entry of a missed address stands.
-- Assumes nothing.
use Rattle.std.specs.Prelude.{ℕ, ◌+◌, ◌*◌, ◌/◌, ◌%◌, ◌^◌, List}
use Rattle.machine.specs.Pages.{page_size}
use Rattle.machine.specs.Words.{bits}
use Rattle.machine.specs.Registers.{register, tag_access, tag_address, tag_context, base_number, configuration_number}

-- "Pointers": 16 bytes for each page, by the low 9 + n bits of the page's number
unfoldable pub tsb_offset : ℕ → ℕ → ℕ → ℕ
tsb_offset n code address = 16 * (address / page_size code % 2 ^ (9 + n))

-- the base from bit 13 + N up, and the offset; N is in the base's low four bits
unfoldable pub tsb_pointer : ℕ → ℕ → ℕ → ℕ
tsb_pointer base code address = base / 2 ^ (13 + base % 2 ^ 4) * 2 ^ (13 + base % 2 ^ 4) + tsb_offset (base % 2 ^ 4) code address

-- whether the context in tag access is 0 says by which registers; size 0 is ps0, 1 is ps1
abbrev pub miss_context : List ℕ → ℕ → ℕ → ℕ
miss_context file strand side = tag_context (tag_access file strand side)

abbrev pub tsb_base : List ℕ → ℕ → ℕ → ℕ → ℕ
tsb_base file strand side size = register file strand (base_number side (miss_context file strand side) size)

abbrev pub tsb_code : List ℕ → ℕ → ℕ → ℕ → ℕ
tsb_code file strand side size = bits (8 * size) 3 (register file strand (configuration_number side (miss_context file strand side)))

abbrev pub pointer : List ℕ → ℕ → ℕ → ℕ → ℕ
pointer file strand side size =
    tsb_pointer (tsb_base file strand side size) (tsb_code file strand side size) (tag_address (tag_access file strand side)).0
