-- Document 01, "Addresses and entry words": ranges, pages and the crossings between the kinds of address.
-- Assumes nothing.
use Rattle.std.specs.Prelude.{ℕ, ◌*◌, ◌/◌, ◌%◌, ◌-◌, ◌^◌, Bool, ◌&&◌, ◌||◌, cond, eqb, ltb, leb}
use Rattle.machine.specs.declared.VirtualAddress.{VirtualAddress}
use Rattle.machine.specs.declared.RealAddress.{RealAddress}
use Rattle.machine.specs.declared.PhysicalAddress.{PhysicalAddress}

-- in range, for virtual and real addresses: among the lowest or the highest 2^47 of 64 bits
unfoldable pub in_range : ℕ → Bool
in_range address = ltb address (2 ^ 47) || (leb (2 ^ 64 - 2 ^ 47) address && ltb address (2 ^ 64))

-- the size codes that have a page
unfoldable pub listed : ℕ → Bool
listed code = eqb code 0 || (eqb code 1 || (eqb code 3 || eqb code 5))

-- the page shift: 8 KB, 64 KB, 4 MB and 256 MB. An unlisted code has no page; its shift is 0
unfoldable pub page_shift : ℕ → ℕ
page_shift code = cond (eqb code 0) 13 (cond (eqb code 1) 16 (cond (eqb code 3) 22 (cond (eqb code 5) 28 0)))

abbrev pub page_size : ℕ → ℕ
page_size code = 2 ^ page_shift code

-- an address rounded down to a page of the code's size
abbrev pub page_start : ℕ → ℕ → ℕ
page_start code address = address / page_size code * page_size code

-- where in its page of the code's size an address lies
abbrev pub page_offset : ℕ → ℕ → ℕ
page_offset code address = address % page_size code

-- where translation is off for a side, the address that a guest gives is a real one
abbrev pub untranslated : VirtualAddress → RealAddress
untranslated a = record { 0 = a.0 }

-- step 3 of "Access": a bypass keeps the low 40 bits
abbrev pub bypassed : VirtualAddress → PhysicalAddress
bypassed a = record { 0 = a.0 % 2 ^ 40 }
