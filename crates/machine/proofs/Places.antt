-- The unit's slots and the places of the second text: a removal, a lookup and an insertion change both alike, and their words are the same. Assumes nothing.
use Rattle.std.proofs.Common.{Some, None, Ok, Option}
use Prim.Native.Nat.{ℕ, zero, suc, ◌+◌, ◌*◌, ◌/◌, ◌%◌, ◌^◌, ◌≤◌, ◌<◌}
use mathlib.Core.Path.{◌≡◌, refl, ap, ap₂, sym, fun_ext, ◌∙◌}
use mathlib.Core.Bool.{Bool, true, false, not}
use mathlib.Core.List.{List, [], ◌∷◌, ◌++◌, map, map-map}
use native.Mathlib.Omega.{arith}
use lib.Dec.{eqb}
use lib.ListN.{get_or, set}
use borrow.Author.Tests.{eqb-true, eqb-false}
use Rattle.laws.specs.Tests.{tick, count, any_of, all_of, first_from, first}
use Rattle.laws.specs.Passing.{passing, none_passes, find}
use Rattle.laws.proofs.Bools.{by-test, clash, and_left, and_right}
use Rattle.laws.proofs.Walks.{found-any, found_none}
use Rattle.laws.proofs.Finds.{none_passes_lem}
use Rattle.machine.specs.Slots.{words_of, no_slot, is_live, partition_of, is_real, context_of, is_locked, is_used, with_used, without_used, set_used, clear_used}
use Rattle.machine.specs.Insertion.{overlaps, emptied_by, removed, is_empty, candidate, wants, found_or, choice}
use Rattle.machine.specs.Insertion.{stored, displaced_by, inserted, placed, has_slot}
use Rattle.machine.specs.Sound.{slot_sound, side_sound}
use Rattle.machine.specs.State.{State, side_of, with_side}
use Rattle.machine.specs.Frame.{entry_in}
use Rattle.machine.specs.Ledger.{Entry, overlap}
use Rattle.machine.specs.Places.{Place, empty, filled, with_places, is_free, is_unlocked, is_unused, emptied_where}
use Rattle.machine.specs.Places.{used_where, unused, sought, at_lowest, with_entry, displaced_from, place_words}
use Rattle.machine.specs.Places.{side_words}
use Rattle.machine.specs.declared.Slot.{Slot}
use Rattle.machine.specs.declared.Wanted.TheVariants as wanted
use Rattle.machine.specs.declared.Choice.{Choice}
use Rattle.machine.specs.declared.Choice.TheVariants.{Empty, Unused, Cleared, Full}
use Rattle.machine.proofs.Used.{SameSlots}
use Rattle.machine.proofs.Alike.{place_in, PlacesAlike}
use Rattle.machine.proofs.Insertion.{is_chosen, is_refused, slot-had, removed-none, Displacement, placed-says}
use Rattle.machine.proofs.Sides.{SameTest, overlap-test}
use Rattle.machine.proofs.Looks.{bit-set}
use Rattle.machine.proofs.Sound.{live-parts, dead-zero}

-- ---- the lowest that passes
module _ {A : Type 0} (g : A → Place) (q : A → Bool) (t : Place → Bool) (e : (x : A) → q x ≡ t (g x)) where
  any_seen : (s : List A) → any_of t (map g s) ≡ any_of q s
  unfolding any_of
  any_seen [] = refl
  any_seen (x ∷ s) = rw (← (e x), any_seen s)

  none_seen : (s : List A) → none_passes t (map g s) ≡ not (any_of q s)
  none_seen s = none_passes_lem t (map g s) ∙ ap not (any_seen s)

  -- what stands there is found, and what is put there is put at the lowest
  lowest-from : (new : Place) (d : A) (s : List A) (k j : ℕ) → first_from q k s ≡ Some j
      → (i : ℕ) × (j ≡ k + i) × (find t (map g s) ≡ Some (g (get_or s i d))) × (set (map g s) i new ≡ at_lowest t new (map g s))
  unfolding first_from passing at_lowest
  lowest-from new d [] k j h = absurd (let z : ◌≡◌ {A = ℕ} 0 1 = cc in omega arith)
  lowest-from new d (x ∷ s) k j h = by-test (q x)
      (λ f.
      let at : Some k ≡ Some j = rw f at h in
      let here : k ≡ j = cc in
      (0, omega arith, rw (← (e x), f), rw (← (e x), f)))
      (λ f.
      let (i, n, a, b) = lowest-from new d s (suc k) j (rw f at h) in
      (suc i, omega arith, rw (← (e x), f) a, rw (← (e x), f) (ap (λ (r : List Place). g x ∷ r) b)))

  lowest : (new : Place) (d : A) (s : List A) (i : ℕ) → first q s ≡ Some i
      → (find t (map g s) ≡ Some (g (get_or s i d))) × (set (map g s) i new ≡ at_lowest t new (map g s))
  lowest new d s i h =
      let (j, n, a, b) = lowest-from new d s 0 i h in
      let same : j ≡ i = omega arith in
      rw (← same) (a, b)

map-set : {A B : Type 0} (g : A → B) (s : List A) (i : ℕ) (x : A) → map g (set s i x) ≡ set (map g s) i (g x)
map-set g [] i x = refl
map-set g (y ∷ s) zero x = refl
map-set g (y ∷ s) (suc i) x = ap (λ r. g y ∷ r) (map-set g s i x)

-- images that agree where a test passes
map-where : {A B : Type 0} (ok : A → Bool) (f g : A → B) (s : List A) → all_of ok s ≡ true → ((x : A) → ok x ≡ true → f x ≡ g x) → map f s ≡ map g s
unfolding all_of
map-where ok f g [] h e = refl
map-where ok f g (x ∷ s) h e = ap₂ (λ y r. y ∷ r) (e x (and_left (ok x) _ h)) (map-where ok f g s (and_right (ok x) _ h) e)

-- ---- one slot and its place
free-slot : (x : Slot) → is_empty x ≡ is_free (place_in x)
free-slot x = by-test (is_live x) (λ l. rw l) (λ l. rw l)

unused-slot : (x : Slot) → wants candidate wanted.Unused x ≡ is_unused (place_in x)
unfolding wants
unused-slot x = by-test (is_live x) (λ l. rw l) (λ l. rw l)

unlocked-slot : (x : Slot) → wants candidate wanted.Candidate x ≡ is_unlocked (place_in x)
unfolding wants
unlocked-slot x = by-test (is_live x) (λ l. rw l) (λ l. rw l)

unlocked-cleared : (x : Slot) → wants candidate wanted.Candidate x ≡ is_unlocked (unused (place_in x))
unfolding wants
unlocked-cleared x = by-test (is_live x) (λ l. rw l) (λ l. rw l)

unused-in : (x : Slot) → place_in (without_used x) ≡ unused (place_in x)
unused-in x =
    let lock : (without_used x).flags % 2 ≡ x.flags % 2 = omega arith in
    let used : (without_used x).flags / 2 % 2 ≡ 0 = omega arith in
    by-test (is_live x) (λ l. rw (l, lock, used)) (λ l. rw l)

used-set : (x : Slot) → (with_used x).flags / 2 % 2 ≡ 1
used-set x = omega arith

module _ {q : Slot → Bool} {p : Entry → Bool} (t : SameTest q p) where
  emptied-in : (x : Slot) → slot_sound x ≡ true → place_in (emptied_by q x) ≡ emptied_where p (place_in x)
  emptied-in x h = by-test (is_live x)
      (λ l. by-test (q x)
      (λ e. let f : p (entry_in x) ≡ true = sym (t.agree x h l) ∙ e in rw (e, l, f))
      (λ e. let f : p (entry_in x) ≡ false = sym (t.agree x h l) ∙ e in rw (e, l, f)))
      (λ l. by-test (q x) (λ e. clash (t.live x e) l) (λ e. rw (e, l)))

  pub emptied-side : (s : List Slot) → side_sound s ≡ true → map place_in (removed q s) ≡ map (emptied_where p) (map place_in s)
  unfolding side_sound
  emptied-side s h =
      map-map place_in (emptied_by q) s ∙ map-where slot_sound _ _ s (and_left _ _ h) emptied-in ∙ sym (map-map (emptied_where p) place_in s)

  -- the entry found has its used bit set, and no other
  used-here : (x : Slot) → slot_sound x ≡ true → q x ≡ true → place_in (with_used x) ≡ used_where p (place_in x)
  used-here x h e =
      let l : is_live x ≡ true = t.live x e in
      let f : p (entry_in x) ≡ true = sym (t.agree x h l) ∙ e in
      let lock : (with_used x).flags % 2 ≡ x.flags % 2 = omega arith in
      rw (l, f, lock, used-set x)

  used-not : (x : Slot) → slot_sound x ≡ true → q x ≡ false → place_in x ≡ used_where p (place_in x)
  used-not x h e = by-test (is_live x)
      (λ l. let f : p (entry_in x) ≡ false = sym (t.agree x h l) ∙ e in rw (l, f))
      (λ l. rw l)

  used-none : (s : List Slot) → all_of slot_sound s ≡ true → count q s ≡ 0 → map place_in s ≡ map (used_where p) (map place_in s)
  unfolding all_of count
  used-none [] h z = refl
  used-none (x ∷ s) h z = by-test (q x)
      (λ e. absurd (omega (arith, ap tick e)))
      (λ e. ap₂ (λ y r. y ∷ r) (used-not x (and_left _ _ h) e) (used-none s (and_right (slot_sound x) _ h) (omega (arith, ap tick e))))

  used-from : (s : List Slot) (k j : ℕ) → all_of slot_sound s ≡ true → count q s ≤ 1 → first_from q k s ≡ Some j
      → (i : ℕ) × (j ≡ k + i) × (map place_in (set_used i s) ≡ map (used_where p) (map place_in s))
  unfolding first_from all_of count
  used-from [] k j h one f = absurd (let z : ◌≡◌ {A = ℕ} 0 1 = cc in omega arith)
  used-from (x ∷ s) k j h one f = by-test (q x)
      (λ e.
      let at : Some k ≡ Some j = rw e at f in
      let here : k ≡ j = cc in
      (0, omega arith, ap₂ (λ y r. y ∷ r) (used-here x (and_left _ _ h) e) (used-none s (and_right (slot_sound x) _ h) (omega (arith, ap tick e)))))
      (λ e.
      let (i, n, m) = used-from s (suc k) j (and_right (slot_sound x) _ h) (omega (arith, ap tick e)) (rw e at f) in
      (suc i, omega arith, ap₂ (λ y r. y ∷ r) (used-not x (and_left _ _ h) e) m))

  pub used-side : (s : List Slot) (i : ℕ) → side_sound s ≡ true → count q s ≤ 1 → first q s ≡ Some i
      → map place_in (set_used i s) ≡ map (used_where p) (map place_in s)
  unfolding side_sound
  used-side s i h one f =
      let (j, n, m) = used-from s 0 i (and_left _ _ h) one f in
      let same : j ≡ i = omega arith in
      rw same at m

  pub unused-side : (s : List Slot) → side_sound s ≡ true → count q s ≡ 0 → map place_in s ≡ map (used_where p) (map place_in s)
  unfolding side_sound
  unused-side s h z = used-none s (and_left _ _ h) z

-- ---- the place that an insertion takes
module _ (s : List Slot) where
  -- what was looked for, and found or not, before a choice
  abbrev ChosenBy : Choice → Type 0
  ChosenBy (Empty i) = first is_empty s ≡ Some i
  ChosenBy (Unused i) = (first is_empty s ≡ None) × (first (wants candidate wanted.Unused) s ≡ Some i)
  ChosenBy (Cleared i) = (first is_empty s ≡ None) × (first (wants candidate wanted.Unused) s ≡ None) × (first (wants candidate wanted.Candidate) s ≡ Some i)
  ChosenBy Full = Unit {0}

  chosen_by : ChosenBy (choice candidate s)
  unfolding choice wants
  chosen_by = go (first is_empty s) (first (wants candidate wanted.Unused) s) (first (wants candidate wanted.Candidate) s) refl refl refl
    where
      go : (a b c : Option ℕ) → first is_empty s ≡ a → first (wants candidate wanted.Unused) s ≡ b → first (wants candidate wanted.Candidate) s ≡ c
          → ChosenBy (found_or a Empty (found_or b Unused (found_or c Cleared Full)))
      go (Some i) b c e f g = e
      go None (Some i) c e f g = (e, f)
      go None None (Some i) e f g = (e, f, g)
      go None None None e f g = tt

  free-none : none_passes is_free (map place_in s) ≡ not (any_of is_empty s)
  free-none = none_seen place_in is_empty is_free free-slot s

  unused-none : none_passes is_unused (map place_in s) ≡ not (any_of (wants candidate wanted.Unused) s)
  unused-none = none_seen place_in (wants candidate wanted.Unused) is_unused unused-slot s

  -- whom it displaces
  way_by : (c : Choice) → ChosenBy c → (x : Slot) → is_live x ≡ true → displaced_by s c ≡ Ok (Some x) → displaced_from (map place_in s) ≡ Some (entry_in x)
  unfolding displaced_from sought
  way_by (Empty i) h x l d = absurd (let z : ◌≡◌ {A = ℕ} 0 1 = cc in omega arith)
  way_by (Unused i) h x l d =
      let there : get_or s i no_slot ≡ x = cc in
      let a : none_passes is_free (map place_in s) ≡ true = free-none ∙ ap not (found_none no_slot is_empty s h.0) in
      let b : none_passes is_unused (map place_in s) ≡ false = unused-none ∙ ap not (found-any no_slot _ s i h.1) in
      let f = (lowest place_in (wants candidate wanted.Unused) is_unused unused-slot empty no_slot s i h.1).0 in
      rw (a, b, f, there, l)
  way_by (Cleared i) h x l d =
      let there : get_or s i no_slot ≡ x = cc in
      let a : none_passes is_free (map place_in s) ≡ true = free-none ∙ ap not (found_none no_slot is_empty s h.0) in
      let b : none_passes is_unused (map place_in s) ≡ true = unused-none ∙ ap not (found_none no_slot _ s h.1) in
      let f = (lowest place_in (wants candidate wanted.Candidate) is_unlocked unlocked-slot empty no_slot s i h.2).0 in
      rw (a, b, f, there, l)
  way_by Full h x l d = absurd (let z : ◌≡◌ {A = ℕ} 0 1 = cc in omega arith)

  cleared-side : map place_in (clear_used s) ≡ map (λ x. unused (place_in x)) s
  cleared-side = map-map place_in without_used s ∙ ap (λ (f : Slot → Place). map f s) (fun_ext unused-in)

  with_entry-by : (c : Choice) → ChosenBy c → is_chosen c ≡ true → (new : Slot) (e : Entry) → place_in new ≡ filled e true
      → map place_in (stored new s c) ≡ with_entry e (map place_in s)
  unfolding with_entry sought
  with_entry-by (Empty i) h y new e n =
      let a : none_passes is_free (map place_in s) ≡ false = free-none ∙ ap not (found-any no_slot is_empty s i h) in
      rw a (map-set place_in s i new ∙ rw n (lowest place_in is_empty is_free free-slot (filled e true) no_slot s i h).1)
  with_entry-by (Unused i) h y new e n =
      let a : none_passes is_free (map place_in s) ≡ true = free-none ∙ ap not (found_none no_slot is_empty s h.0) in
      let b : none_passes is_unused (map place_in s) ≡ false = unused-none ∙ ap not (found-any no_slot _ s i h.1) in
      rw (a, b) (map-set place_in s i new ∙ rw n (lowest place_in (wants candidate wanted.Unused) is_unused unused-slot (filled e true) no_slot s i h.1).1)
  with_entry-by (Cleared i) h y new e n =
      let a : none_passes is_free (map place_in s) ≡ true = free-none ∙ ap not (found_none no_slot is_empty s h.0) in
      let b : none_passes is_unused (map place_in s) ≡ true = unused-none ∙ ap not (found_none no_slot _ s h.1) in
      rw (a, b, map-map unused place_in s)
      (map-set place_in (clear_used s) i new
      ∙ rw (n, cleared-side)
      (lowest (λ x. unused (place_in x)) (wants candidate wanted.Candidate) is_unlocked unlocked-cleared (filled e true) no_slot s i h.2).1)
  with_entry-by Full h y new e n = clash y refl

-- an entry that made way is the one that the places pick
pub displaced-way : (new : Slot) (s : List Slot) (x : Slot) → placed candidate new s ≡ Ok (Some x) → displaced_from (map place_in s) ≡ Some (entry_in x)
unfolding placed
displaced-way new s x d =
    let w : Displacement candidate new s x = rw d at (placed-says candidate new s) in
    let kept : removed (overlaps new) s ≡ s = removed-none (overlaps new) s w.apart in
    way_by s (choice candidate s) (chosen_by s) x (and_left _ _ w.allowed) (rw kept at d)

-- the slots after an insertion for which one was to be had
pub inserted-side : (new : Slot) → slot_sound new ≡ true → is_live new ≡ true → is_used new ≡ true
    → (s : List Slot) → side_sound s ≡ true → has_slot candidate new s ≡ true
    → map place_in (inserted candidate new s) ≡ with_entry (entry_in new) (map (emptied_where (overlap (entry_in new))) (map place_in s))
unfolding inserted placed
inserted-side new k l m s h y =
    let kept : List Slot = removed (overlaps new) s in
    let n : place_in new ≡ filled (entry_in new) true = rw (l, m) in
    let some-place : is_chosen (choice candidate kept) ≡ true = chosen (choice candidate kept) (sym (slot-had candidate new s) ∙ y) in
    rw (← (emptied-side (overlap-test new k l) s h)) (with_entry-by kept (choice candidate kept) (chosen_by kept) some-place new (entry_in new) n)
  where
    chosen : (c : Choice) → not (is_refused (displaced_by (removed (overlaps new) s) c)) ≡ true → is_chosen c ≡ true
    chosen (Empty i) e = refl
    chosen (Unused i) e = refl
    chosen (Cleared i) e = refl
    chosen Full e = e

-- ---- a side of two
module _ {u : State} {p : ℕ → List Place} (h : PlacesAlike u p) (side : ℕ) (b : side < 2) where
  pub places-with : (s : List Slot) {m : List Place} → map place_in s ≡ m → PlacesAlike (with_side u side s) (with_places p side m)
  places-with s {m} e = record {
    at = λ other c. by-test (eqb other side)
        (λ t. rw (t, eqb-true other side t) (here side b))
        (λ t. rw t (there side other b c (eqb-false other side t)));
  }
    where
      here : (k : ℕ) → k < 2 → m ≡ map place_in (side_of (with_side u k s) k)
      here zero l = sym e
      here (suc zero) l = sym e
      here (suc (suc k)) l = absurd (omega arith)

      there : (k j : ℕ) → k < 2 → j < 2 → (j ≡ k → ⊥) → p j ≡ map place_in (side_of (with_side u k s) j)
      there zero zero l c d = absurd (d refl)
      there zero (suc zero) l c d = h.at 1 c
      there (suc zero) zero l c d = h.at 0 c
      there (suc zero) (suc zero) l c d = absurd (d refl)
      there zero (suc (suc j)) l c d = absurd (omega arith)
      there (suc zero) (suc (suc j)) l c d = absurd (omega arith)
      there (suc (suc k)) j l c d = absurd (omega arith)

  -- every place of it, as every slot
  pub places-each : (s : List Slot) (f : Place → Place) → map place_in s ≡ map f (map place_in (side_of u side))
      → PlacesAlike (with_side u side s) (with_places p side (map f (p side)))
  places-each s f e = rw (h.at side b) (places-with s e)

-- the same slots
pub places_same : {u : State} (v : State) {p : ℕ → List Place} → PlacesAlike u p → SameSlots v u → PlacesAlike v p
places_same {u} v {p} h (i, d) = record { at = go }
  where
    go : (side : ℕ) → side < 2 → p side ≡ map place_in (side_of v side)
    go zero b = rw i (h.at 0 b)
    go (suc zero) b = rw d (h.at 1 b)
    go (suc (suc k)) b = absurd (omega arith)

-- ---- words
slot-words : (x : Slot) → slot_sound x ≡ true → x.owner ∷ x.page ∷ x.word ∷ x.flags ∷ [] ≡ place_words (place_in x)
slot-words x h = by-test (is_live x)
    (λ l.
    let r : x.owner / 2 ^ 13 % 2 ≡ tick (is_real x) = bit-set _ (omega arith) in
    let a : x.flags % 2 ≡ tick (is_locked x) = bit-set _ (omega arith) in
    let b : x.flags / 2 % 2 ≡ tick (is_used x) = bit-set _ (omega arith) in
    let o : partition_of x * 2 ^ 14 + tick (is_real x) * 2 ^ 13 + context_of x ≡ x.owner = rw (← r) (omega arith) in
    let f : tick (is_locked x) + 2 * tick (is_used x) ≡ x.flags = rw (← a, ← b) (omega (arith, (live-parts x h l).flags)) in
    rw (l, o, f))
    (λ l. rw (dead-zero x h l))

pub side_words_lem : (s : List Slot) → side_sound s ≡ true → words_of s ≡ side_words (map place_in s)
unfolding side_sound words_of side_words all_of
side_words_lem s h = go s (and_left _ _ h)
  where
    go : (r : List Slot) → all_of slot_sound r ≡ true → words_of r ≡ side_words (map place_in r)
    go [] e = refl
    go (x ∷ r) e = ap₂ (λ (a b : List ℕ). a ++ b) (slot-words x (and_left _ _ e)) (go r (and_right (slot_sound x) _ e))
