-- What all the slots of a side have, gathered in one pass, by which a side of virtual 8 KB pages is known to be sound slot by slot. None of
-- this is in what `side_sound` promises.
-- Assumes nothing.
use Rattle.std.specs.Prelude.{ℕ, ◌+◌, ◌-◌, ◌/◌, ◌%◌, ◌^◌, Bool, cond, List, [], ◌∷◌, ◌==◌, bit_and, bit_or, nat_lt}
use Rattle.machine.specs.Words.{bits}
use Rattle.machine.specs.declared.Slot.{Slot}
use Rattle.tlb_sound.specs.declared.Digest.{Digest}

-- a page counted from the lowest one in range, round 2 ^ 64: below 2 ^ 48 where it is in range. No slot has a page past 64 bits
unfoldable pub reach : ℕ → ℕ
reach page = cond (nat_lt page (2 ^ 64)) ((page + 2 ^ 47) % 2 ^ 64) page

-- the digest of one slot
abbrev pub digest_one : Slot → Digest
digest_one x = record { owners = x.owner; pages = reach x.page; words = x.word; common = x.word; flags = x.flags }

-- of two digests
abbrev pub joined : Digest → Digest → Digest
joined d e = record {
  owners = bit_or d.owners e.owners;
  pages = bit_or d.pages e.pages;
  words = bit_or d.words e.words;
  common = bit_and d.common e.common;
  flags = bit_or d.flags e.flags;
}

unfoldable pub joined_all : Digest → List Slot → Digest
joined_all d [] = d
joined_all d (x ∷ r) = joined_all (joined d (digest_one x)) r

-- of no slot
abbrev pub no_digest : Digest
no_digest = record { owners = 0; pages = 0; words = 0; common = 2 ^ 64 - 1; flags = 0 }

abbrev pub digest_of : List Slot → Digest
digest_of s = joined_all no_digest s

-- the bits that no sound slot has: an owner's from 17 on, a page's out of range or below 8 KB, a word's 55:40 and past 63, flags' from 2 on
unfoldable pub excess : Digest → ℕ
excess d = d.owners / 2 ^ 17 + (d.pages / 2 ^ 48 + (d.pages % 2 ^ 13 + (bits 40 16 d.words + (d.words / 2 ^ 64 + d.flags / 2 ^ 2))))

abbrev pub fields_fit : Digest → Bool
fields_fit d = excess d == 0

-- what else there is to ask: a size code that is not 0, a real bit, a slot that is not live
unfoldable pub rest : Digest → ℕ
rest d = d.words % 2 ^ 4 + (bits 13 1 d.owners + (1 - bits 63 1 d.common))

abbrev pub plain : Digest → Bool
plain d = rest d == 0
