-- Document 01, "Addresses and entry words": the entry word (a sun4v TTE) and its fields.
-- Assumes nothing.
use Rattle.std.specs.Prelude.{ℕ, ◌+◌, ◌*◌, ◌/◌, ◌%◌, ◌^◌, Bool, ◌&&◌, eqb, ltb}
use Rattle.machine.specs.Pages.{listed, page_start, page_offset}
use Rattle.machine.specs.declared.VirtualAddress.{VirtualAddress}
use Rattle.machine.specs.declared.Tte.{Tte}
use Rattle.machine.specs.declared.PhysicalAddress.{PhysicalAddress}
use Rattle.machine.specs.declared.Reach.{Reach}

-- n bits of a word, from bit k up
abbrev pub bits : ℕ → ℕ → ℕ → ℕ
bits k n word = word / 2 ^ k % 2 ^ n

-- "Entry word (sun4v)": each field by its lowest bit and its width
unfoldable pub unpacked : ℕ → Tte
unpacked word = record {
  v = bits 63 1 word;
  nfo = bits 62 1 word;
  soft2 = bits 56 6 word;
  address = bits 13 43 word;
  ie = bits 12 1 word;
  e = bits 11 1 word;
  cp = bits 10 1 word;
  cv = bits 9 1 word;
  p = bits 8 1 word;
  ep = bits 7 1 word;
  w = bits 6 1 word;
  soft = bits 4 2 word;
  size = word % 2 ^ 4;
}

-- each field in its place; what does not fit its width is dropped
unfoldable pub packed : Tte → ℕ
packed t =
    t.v % 2 * 2 ^ 63
    + t.nfo % 2 * 2 ^ 62
    + t.soft2 % 2 ^ 6 * 2 ^ 56
    + t.address % 2 ^ 43 * 2 ^ 13
    + t.ie % 2 * 2 ^ 12
    + t.e % 2 * 2 ^ 11
    + t.cp % 2 * 2 ^ 10
    + t.cv % 2 * 2 ^ 9
    + t.p % 2 * 2 ^ 8
    + t.ep % 2 * 2 ^ 7
    + t.w % 2 * 2 ^ 6
    + t.soft % 2 ^ 2 * 2 ^ 4
    + t.size % 2 ^ 4

-- every field fits its width
unfoldable pub fields : Tte → Bool
fields t =
    ltb t.v 2 && (ltb t.nfo 2 && (ltb t.soft2 (2 ^ 6) && (ltb t.address (2 ^ 43)
    && (ltb t.ie 2 && (ltb t.e 2 && (ltb t.cp 2 && (ltb t.cv 2 && (ltb t.p 2 && (ltb t.ep 2
    && (ltb t.w 2 && (ltb t.soft (2 ^ 2) && ltb t.size (2 ^ 4))))))))))))

-- number 12, as "Sound means" asks it of a live entry's word: v set, a size code that has a page, an address below 2^40
unfoldable pub word_sound : ℕ → Bool
word_sound word = eqb (word / 2 ^ 63) 1 && (listed (word % 2 ^ 4) && eqb (bits 40 16 word) 0)

-- number 12: what an insertion takes. It implies `word_sound`
unfoldable pub word_insertable : ℕ → Bool
word_insertable word = word_sound word

-- step 8 of "Access": where the page starts in physical memory; address bits within the page do not count
unfoldable pub frame : ℕ → PhysicalAddress
frame word = record { 0 = page_start (word % 2 ^ 4) (bits 13 43 word * 2 ^ 13) }

-- how an address lies in a page of the word's size (document 02, U3): the size code, and the offset
abbrev pub reach_of : ℕ → ℕ → Reach
reach_of word address = record { code = word % 2 ^ 4; offset = page_offset (word % 2 ^ 4) address }

-- step 8: the frame, and the offset that the match gave
unfoldable pub physical_by : ℕ → Reach → PhysicalAddress
physical_by word r = record { 0 = (frame word).0 + r.offset }

-- the physical address of an address in the page
abbrev pub physical_at : ℕ → VirtualAddress → PhysicalAddress
physical_at word address = physical_by word (reach_of word address.0)
