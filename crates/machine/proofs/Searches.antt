-- What a search of a sound side finds and compares, told by the ledger's entries and their places. Assumes nothing.
use Rattle.std.proofs.Common.{Some}
use Prim.Native.Nat.{ℕ, zero, suc, ◌+◌}
use mathlib.Core.Path.{◌≡◌, refl, ap, sym, ◌∙◌}
use mathlib.Core.Bool.{Bool, true}
use mathlib.Core.List.{List, [], ◌∷◌, map}
use lib.ListN.{get_or, take, get_or-map}
use Rattle.laws.specs.Tests.{count, count_up_to, first}
use Rattle.laws.proofs.Bools.{and_left}
use Rattle.laws.proofs.Counts.{none-count}
use Rattle.laws.proofs.Walks.{found_at, found_none}
use Rattle.laws.proofs.Finds.{upto-where, upto-found, upto-none, how_many_lem}
use Rattle.machine.specs.Slots.{no_slot, is_live, is_used, is_compared, answers_to, searched}
use Rattle.machine.specs.Sound.{slot_sound, side_sound}
use Rattle.machine.specs.Questions.{key_of}
use Rattle.machine.specs.State.{Counts}
use Rattle.machine.specs.Ledger.{Entry, is_of, is_at}
use Rattle.machine.specs.Frame.{entry_in}
use Rattle.machine.specs.Good.{entries_in}
use Rattle.machine.specs.Searches.{SearchSays, Searches}
use Rattle.machine.specs.declared.Slot.{Slot}
use Rattle.machine.specs.declared.Key.{Key}
use Rattle.machine.specs.declared.VirtualAddress.{VirtualAddress}
use Rattle.machine.proofs.Alike.{hit, SideAlike, place_in}
use Rattle.machine.proofs.Sound.{sound-slot}
use Rattle.machine.proofs.State.{sound-encode}
use Rattle.machine.proofs.Sides.{SameTest, owner-test, key-test, same-hit, alike-count}
use Rattle.machine.proofs.Commands.{alike-side}
use Rattle.machine.proofs.Demand3.{alike-sound, alike-words}
use Rattle.machine.proofs.Good.{entries-same, state_for, good-alike}

map-take : {A B : Type 0} (g : A → B) (k : ℕ) (s : List A) → map g (take k s) ≡ take k (map g s)
map-take g zero s = refl
map-take g (suc k) [] = refl
map-take g (suc k) (x ∷ s) = ap (λ r. g x ∷ r) (map-take g k s)

module _ {n : ℕ} {s : List Slot} {m : List Entry} (h : SideAlike n s m) (partition : ℕ) (real : Bool) (context : ℕ) (address : VirtualAddress) where
  abbrev key : Key
  key = key_of real partition context address

  abbrev asked : Entry → Bool
  asked = is_of partition real context

  -- compared are the live slots whose entries are asked for
  compared : count_up_to (is_compared key) (answers_to key) s ≡ count_up_to (hit asked) (answers_to key) s
  unfolding side_sound
  compared =
      upto-where slot_sound (answers_to key) (answers_to key) (λ x k. refl) (is_compared key) (hit asked)
      (same-hit (owner-test partition real context address)) s (and_left _ _ h.sound)

  found-says : (i : ℕ) → first (answers_to key) s ≡ Some i →
      let x : Slot = get_or s i no_slot in
      (is_live x ≡ true) × (is_at partition real context address.0 (entry_in x) ≡ true)
  found-says i f =
      let t : SameTest (answers_to key) (is_at partition real context address.0) = key-test partition real context address in
      let a : answers_to key (get_or s i no_slot) ≡ true = (found_at no_slot (answers_to key) s i f).1 in
      let l : is_live (get_or s i no_slot) ≡ true = t.live _ a in
      (l, sym (t.agree _ (sound-slot s i h.sound) l) ∙ a)

  side-says : SearchSays (map place_in s) m asked (is_at partition real context address.0) (searched key s)
  side-says = record {
    hit = λ i f.
        let x : Slot = get_or s i no_slot in
        let (l, a) = found-says i f in (
          entry_in x,
          is_used x,
          get_or-map place_in s i no_slot ∙ rw l,
          a,
          compared ∙ upto-found (hit asked) (answers_to key) s i f ∙ entries-same asked (take (i + 1) s)
              ∙ rw (map-take place_in (i + 1) s) (sym (how_many_lem asked (entries_in (take (i + 1) (map place_in s))))),
        );
    miss = λ f.
        let none : count (answers_to key) s ≡ 0 = none-count (answers_to key) s (found_none no_slot (answers_to key) s f) in (
          how_many_lem _ m ∙ sym (alike-count h (key-test partition real context address)) ∙ none,
          compared ∙ upto-none (hit asked) (answers_to key) s none ∙ h.same asked ∙ sym (how_many_lem asked m),
        );
  }

pub searches : (n : Counts) → Searches n
unfolding Searches
searches n k g side b partition real context address p c =
    let h = good-alike n k g in
    let sound = alike-sound n (state_for n k g) k.ledger h.ledger in
    rw (← (alike-words h), sound-encode n (state_for n k g) sound, h.places.at side b)
    (side-says (alike-side side b h.ledger) partition real context address)
