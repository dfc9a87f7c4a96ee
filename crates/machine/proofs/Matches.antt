-- What a lookup yields, by what the search finds: the slot found matches. Assumes nothing.
use Rattle.std.proofs.Common.{Some, None, Option}
use Prim.Native.Nat.{ℕ}
use mathlib.Core.Path.{◌≡◌, refl}
use mathlib.Core.Bool.{true}
use mathlib.Core.List.{List}
use lib.ListN.{get_or}
use Rattle.laws.proofs.Bools.{and_right}
use Rattle.laws.proofs.Walks.{found_at}
use Rattle.machine.specs.Words.{reach_of}
use Rattle.machine.specs.Slots.{no_slot, key_address, holds, within, page_match, is_compared, answers_to, search}
use Rattle.machine.specs.Slots.{Looked, hit, miss, looked_at, lookup}
use Rattle.machine.specs.declared.Slot.{Slot}
use Rattle.machine.specs.declared.Key.{Key}

-- an address that the page holds is within it, by the word's size code
pub match-within : (x : Slot) (a : ℕ) → holds x a ≡ true → page_match x a ≡ within (reach_of x.word a)
unfolding page_match
match-within x a h = rw h

-- the page of the slot found holds the key's address
pub found-holds : (key : Key) (s : List Slot) (i : ℕ) → search key s ≡ Some i → holds (get_or s i no_slot) (key_address key) ≡ true
unfolding answers_to
found-holds key s i e =
    let x : Slot = get_or s i no_slot in
    and_right (is_compared key x) (holds x (key_address key)) (found_at no_slot (answers_to key) s i e).1

-- what holds of a miss where nothing is found, and of a hit in the slot found, holds of the lookup
pub looked-by : (key : Key) (s : List Slot) (P : Looked → Type 0) → (search key s ≡ None → P miss)
    → ((i : ℕ) → search key s ≡ Some i → P (hit i (reach_of (get_or s i no_slot).word (key_address key)))) → P (lookup key s)
unfolding lookup
looked-by key s P none some = go (search key s) refl
  where
    go : (f : Option ℕ) → search key s ≡ f → P (looked_at key s f)
    go None e = none e
    go (Some i) e = rw (match-within (get_or s i no_slot) (key_address key) (found-holds key s i e)) (some i e)
