-- The slots of one side of a TLB ("buffer" in document 01), any number of them, and what a search of them finds.
-- Assumes nothing.
use Rattle.std.specs.Prelude.{ℕ, ◌+◌, ◌*◌, ◌/◌, ◌%◌, ◌^◌, ◌<◌, List, [], ◌∷◌, map, Bool, true, false, not, cond, ◌&&◌, eqb, get_or, set, Some, None, Option}
use Rattle.std.proofs.lemmas.List.Edits.{sets}
use Rattle.laws.specs.Tests.{tick, first, count_up_to}
use Rattle.machine.specs.Pages.{page_start}
use Rattle.machine.specs.Words.{reach_of}
use Rattle.machine.specs.declared.Slot.{Slot}
use Rattle.machine.specs.declared.Key.{Key}
use Rattle.machine.specs.declared.Key.TheVariants.{Virtual, Real}
use Rattle.machine.specs.declared.Reach.{Reach}
use Rattle.machine.specs.declared.Searched.{Searched}

-- ---- slots and words: each determines the other
-- four words a slot; fewer than four at the end are no slot
unfoldable pub slots_of : List ℕ → List Slot
slots_of [] = []
slots_of (a ∷ []) = []
slots_of (a ∷ b ∷ []) = []
slots_of (a ∷ b ∷ c ∷ []) = []
slots_of (a ∷ b ∷ c ∷ d ∷ r) = record { owner = a; page = b; word = c; flags = d } ∷ slots_of r

unfoldable pub words_of : List Slot → List ℕ
words_of [] = []
words_of (x ∷ r) = x.owner ∷ x.page ∷ x.word ∷ x.flags ∷ words_of r

-- slot i of the words holds x; the other words are as they were
abbrev pub with_slot : List ℕ → ℕ → Slot → List ℕ
with_slot words i x = sets words (i * 4) (x.owner ∷ x.page ∷ x.word ∷ x.flags ∷ [])

-- an empty slot: zeros in all four words, lock and used bit included
abbrev pub no_slot : Slot
no_slot = record { owner = 0; page = 0; word = 0; flags = 0 }

abbrev pub slot_of : List ℕ → ℕ → Slot
slot_of words i = get_or (slots_of words) i no_slot

-- slot i of the words is replaced by f of it
abbrev pub on_slot : (Slot → Slot) → ℕ → List ℕ → List ℕ
on_slot f i words = with_slot words i (f (slot_of words i))

-- ---- what stands in a slot
-- live where v, bit 63 of the word, is set; else empty
abbrev pub is_live : Slot → Bool
is_live x = eqb (x.word / 2 ^ 63) 1

abbrev pub size_code : Slot → ℕ
size_code x = x.word % 2 ^ 4

abbrev pub partition_of : Slot → ℕ
partition_of x = x.owner / 2 ^ 14

-- the real bit (document 01: realness)
abbrev pub is_real : Slot → Bool
is_real x = eqb (x.owner / 2 ^ 13 % 2) 1

abbrev pub context_of : Slot → ℕ
context_of x = x.owner % 2 ^ 13

abbrev pub is_locked : Slot → Bool
is_locked x = eqb (x.flags % 2) 1

-- the used bit (document 01: mark)
abbrev pub is_used : Slot → Bool
is_used x = eqb (x.flags / 2 % 2) 1

-- ---- lookup
-- partition, real bit and context in their places
abbrev pub owner_word : ℕ → Bool → ℕ → ℕ
owner_word partition real context = partition % 8 * 2 ^ 14 + tick real * 2 ^ 13 + context % 2 ^ 13

-- of a real entry the context is 0
abbrev pub key_owner : Key → ℕ
key_owner (Virtual partition context address) = owner_word partition false context
key_owner (Real partition address) = owner_word partition true 0

abbrev pub key_address : Key → ℕ
key_address (Virtual partition context address) = address.0
key_address (Real partition address) = address.0

-- a key whose partition and context have room in their places
abbrev pub KeyFits : Key → Type 0
KeyFits (Virtual partition context address) = (partition < 8) × (context < 2 ^ 13)
KeyFits (Real partition address) = partition < 8

-- document 02, U2: the partition is compared first, then the real bit, and the context only where the key is virtual
abbrev pub agrees : Key → Slot → Bool
agrees (Virtual partition context address) x = eqb (partition_of x) partition && (not (is_real x) && eqb (context_of x) context)
agrees (Real partition address) x = eqb (partition_of x) partition && is_real x

-- the page holds the address: rounded down to the page's size, it is the page's start
abbrev pub holds : Slot → ℕ → Bool
holds x address = eqb (page_start (size_code x) address) x.page

-- the match of an address against an entry (document 02, U3): outside its page; or within it, with the size code and the offset
pub data PageMatch : Type 0 where
  outside : PageMatch
  within : Reach → PageMatch

unfoldable pub page_match : Slot → ℕ → PageMatch
page_match x address = cond (holds x address) (within (reach_of x.word address)) outside

-- a slot whose page is compared: it agrees and is live. An empty one agrees with partition 0, virtual, context 0, and its page is no page
unfoldable pub is_compared : Key → Slot → Bool
is_compared key x = agrees key x && is_live x

-- the page comes last: it holds the key's address
unfoldable pub answers_to : Key → Slot → Bool
answers_to key x = is_compared key x && holds x (key_address key)

abbrev pub search : Key → List Slot → Option ℕ
search key s = first (answers_to key) s

-- what a search yields: the lowest slot that answers, and how many pages it compared, that one's too
abbrev pub searched : Key → List Slot → Searched
searched key s = record { found = search key s; compared = count_up_to (is_compared key) (answers_to key) s }

-- what a lookup yields: the slot found, and how the address lies in its page. No slot is found whose page is not matched
pub data Looked : Type 0 where
  hit : ℕ → Reach → Looked
  miss : Looked

abbrev pub matched_at : ℕ → PageMatch → Looked
matched_at i (within r) = hit i r
matched_at i outside = miss

abbrev pub looked_at : Key → List Slot → Option ℕ → Looked
looked_at key s (Some i) = matched_at i (page_match (get_or s i no_slot) (key_address key))
looked_at key s None = miss

unfoldable pub lookup : Key → List Slot → Looked
lookup key s = looked_at key s (search key s)

-- ---- used bits
abbrev pub with_used : Slot → Slot
with_used x = record { owner = x.owner; page = x.page; word = x.word; flags = x.flags % 2 + 2 }

abbrev pub without_used : Slot → Slot
without_used x = record { owner = x.owner; page = x.page; word = x.word; flags = x.flags % 2 }

-- sets the used bit of slot i
abbrev pub set_used : ℕ → List Slot → List Slot
set_used i s = set s i (with_used (get_or s i no_slot))

-- clears every used bit
abbrev pub clear_used : List Slot → List Slot
clear_used s = map without_used s
