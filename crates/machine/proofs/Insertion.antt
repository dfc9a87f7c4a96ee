-- Laws of overlap, removal and insertion on the slots of one side: any number of slots, any test for candidates.
-- Assumes nothing.
use Rattle.std.proofs.Common.{Some, None, Ok, Err, Option, Result}
use Prim.Native.Nat.{ℕ, zero, suc, ◌+◌, ◌≤◌, ◌<◌}
use mathlib.Core.Path.{◌≡◌, refl, ap, sym, ◌∙◌}
use mathlib.Core.Bool.{Bool, true, false, not, ◌&&◌, ◌||◌, or-true, or-false, or_assoc, or_comm}
use mathlib.Core.List.{List, [], ◌∷◌}
use mathlib.Core.Logic.{◌⊎◌, inl, inr}
use native.Mathlib.Nat.{le_of_lt}
use native.Mathlib.Omega.{arith}
use lib.Dec.{leb}
use lib.ListN.{length, get_or, set, length-map, length-set, get_or-map}
use borrow.Author.Tests.{eq-eqb, eqb-true, leb-true, leb-false, not-true}
use Rattle.laws.specs.Tests.{tick, count, any_of, first}
use Rattle.laws.proofs.Bools.{by-test, both_ways, clash, and_left, and_right, or_left, or_right, or-other}
use Rattle.laws.proofs.Counts.{count_set, count_map, count_same}
use Rattle.laws.proofs.Walks.{any_at, found_at, found_none}
use Rattle.machine.specs.Pages.{page_shift, page_start}
use Rattle.machine.specs.Slots.{no_slot, is_live, size_code, is_used, holds, with_used, without_used, set_used, clear_used}
use Rattle.machine.specs.Insertion.{overlaps, emptied_by, removed, is_empty, wants, found_or, choice, stored, displaced_by, inserted, placed, has_slot}
use Rattle.machine.specs.declared.Slot.{Slot}
use Rattle.machine.specs.declared.Wanted.{Wanted}
use Rattle.machine.specs.declared.Wanted.TheVariants as wanted
use Rattle.machine.specs.declared.Choice.{Choice}
use Rattle.machine.specs.declared.Choice.TheVariants.{Empty, Unused, Cleared, Full}
use Rattle.machine.proofs.Pages.{round-round}
use Rattle.machine.specs.declared.NoSlot.{NoSlot}

ruleset conj = (and_left, and_right, eqb-true)

-- ---- overlap
-- only live entries overlap
pub overlaps-live : (x y : Slot) → overlaps x y ≡ true → (is_live x ≡ true) × (is_live y ≡ true)
unfolding overlaps
overlaps-live x y h =
    let a : is_live x ≡ true = search conj in
    let b : is_live y ≡ true = search conj in
    (a, b)

pub overlaps-turn : (x y : Slot) → overlaps x y ≡ true → overlaps y x ≡ true
unfolding overlaps
overlaps-turn x y h =
    let o : x.owner ≡ y.owner = search conj in
    let p : (holds x y.page || holds y x.page) ≡ true = search conj in
    rw ((overlaps-live x y h).0, (overlaps-live x y h).1, eq-eqb _ _ (sym o)) (or_comm (holds y x.page) (holds x y.page) ∙ p)

pub overlaps-sym : (x y : Slot) → overlaps x y ≡ overlaps y x
overlaps-sym x y = both_ways _ _ (overlaps-turn x y) (overlaps-turn y x)

-- of two pages that hold one address, the larger holds the start of the other
larger : (x y : Slot) (a : ℕ) → page_shift (size_code x) ≤ page_shift (size_code y) → holds x a ≡ true → holds y a ≡ true → holds y x.page ≡ true
larger x y a h hx hy =
    let px : page_start (size_code x) a ≡ x.page = eqb-true _ _ hx in
    let py : page_start (size_code y) a ≡ y.page = eqb-true _ _ hy in
    let r : page_start (size_code y) x.page ≡ y.page = rw (← px, round-round a (page_shift (size_code x)) (page_shift (size_code y)) h) py in
    eq-eqb _ _ r

-- so one of them holds the start of the other
pub pages-meet : (x y : Slot) (a : ℕ) → holds x a ≡ true → holds y a ≡ true → (holds x y.page || holds y x.page) ≡ true
pages-meet x y a hx hy =
    by-test (leb (page_shift (size_code x)) (page_shift (size_code y)))
    (λ e. rw (larger x y a (leb-true _ _ e) hx hy) (or-true (holds x y.page)))
    (λ e. rw (larger y x a (le_of_lt (leb-false _ _ e)) hy hx))

-- ---- removal
module _ (q : Slot → Bool) where
  pub length_removed : (s : List Slot) → length (removed q s) ≡ length s
  length_removed s = length-map s (emptied_by q)

  -- what a test of entries still finds: the entries that it finds and that were not taken
  pub count-removed : (p : Slot → Bool) → p no_slot ≡ false → (s : List Slot) → count p (removed q s) ≡ count (λ x. not (q x) && p x) s
  count-removed p z s = count_map p (emptied_by q) s ∙ count_same _ _ s (λ x. by-test (q x) (λ e. rw e z) (λ e. rw e))

  pub removed-none : (s : List Slot) → any_of q s ≡ false → removed q s ≡ s
  unfolding any_of
  removed-none [] h = refl
  removed-none (x ∷ s) h = rw (or_left (q x) _ h, removed-none s (or_right (q x) _ h))

  -- a removal that takes an entry leaves an empty slot
  pub removed-any-empty : (s : List Slot) → any_of q s ≡ true → any_of is_empty (removed q s) ≡ true
  unfolding any_of
  removed-any-empty [] h = clash h refl
  removed-any-empty (x ∷ s) h = by-test (q x)
      (λ e. rw e)
      (λ e. rw (removed-any-empty s (or-other (q x) _ h e)) (or-true (is_empty (emptied_by q x))))

-- ---- used bits
-- they are nothing to a test that is blind to them
module _ (p : Slot → Bool) where
  pub count-clear_used : ((x : Slot) → p (without_used x) ≡ p x) → (s : List Slot) → count p (clear_used s) ≡ count p s
  count-clear_used blind s = count_map p without_used s ∙ count_same _ p s blind

  pub count_set-used : ((x : Slot) → p (with_used x) ≡ p x) → (s : List Slot) (i : ℕ) → count p (set_used i s) ≡ count p s
  unfolding count
  count_set-used blind [] i = refl
  count_set-used blind (x ∷ s) zero = omega (arith, ap tick (blind x))
  count_set-used blind (x ∷ s) (suc i) = omega (arith, count_set-used blind s i)

  -- a store where all used bits were cleared
  count-cleared : (s : List Slot) (i : ℕ) (new : Slot) → i < length s
      → count p (set (clear_used s) i new) + tick (p (without_used (get_or s i no_slot))) ≡ count p (clear_used s) + tick (p new)
  count-cleared s i new h =
      rw (get_or-map without_used s i no_slot) at (count_set p (clear_used s) i new no_slot (omega (arith, length-map s without_used)))

-- ---- the choice of a slot
abbrev pub is_chosen : Choice → Bool
is_chosen (Empty i) = true
is_chosen (Unused i) = true
is_chosen (Cleared i) = true
is_chosen Full = false

module _ (cand : Slot → Bool) (s : List Slot) where
  -- what is known of each choice
  abbrev pub Chosen : Choice → Type 0
  Chosen (Empty i) = (i < length s) × (is_empty (get_or s i no_slot) ≡ true)
  Chosen (Unused i) = (any_of is_empty s ≡ false) × (i < length s) × (cand (get_or s i no_slot) ≡ true) × (is_used (get_or s i no_slot) ≡ false)
  Chosen (Cleared i) = (any_of is_empty s ≡ false) × (any_of (wants cand wanted.Unused) s ≡ false) × (i < length s) × (cand (get_or s i no_slot) ≡ true)
  Chosen Full = (any_of is_empty s ≡ false) × (any_of cand s ≡ false)

  -- each choice is what it is called
  pub choice-says : Chosen (choice cand s)
  unfolding choice wants
  choice-says = go (found wanted.Empty) (found wanted.Unused) (found wanted.Candidate) refl refl refl
    where
      found : Wanted → Option ℕ
      found w = first (wants cand w) s

      none : (w : Wanted) → found w ≡ None → any_of (wants cand w) s ≡ false
      none w = found_none no_slot (wants cand w) s

      at : (w : Wanted) (i : ℕ) → found w ≡ Some i → (i < length s) × (wants cand w (get_or s i no_slot) ≡ true)
      at w = found_at no_slot (wants cand w) s

      go : (a b c : Option ℕ) → found wanted.Empty ≡ a → found wanted.Unused ≡ b → found wanted.Candidate ≡ c
          → Chosen (found_or a Empty (found_or b Unused (found_or c Cleared Full)))
      go (Some i) b c e f g = at wanted.Empty i e
      go None (Some i) c e f g =
          let h = at wanted.Unused i f in
          (none wanted.Empty e, h.0, and_left (cand _) _ h.1, not-true _ (and_right (cand (get_or s i no_slot)) _ h.1))
      go None None (Some i) e f g =
          let h = at wanted.Candidate i g in
          (none wanted.Empty e, none wanted.Unused f, h.0, h.1)
      go None None None e f g = (none wanted.Empty e, none wanted.Candidate g)

  -- a slot is chosen where one is empty or holds a candidate
  pub chosen-any : is_chosen (choice cand s) ≡ (any_of is_empty s || any_of cand s)
  chosen-any = go (choice cand s) choice-says
    where
      go : (c : Choice) → Chosen c → is_chosen c ≡ (any_of is_empty s || any_of cand s)
      go (Empty i) h = rw (any_at no_slot is_empty s i h.0 h.1)
      go (Unused i) h = rw (h.0, any_at no_slot cand s i h.1 h.2)
      go (Cleared i) h = rw (h.0, any_at no_slot cand s i h.2 h.3)
      go Full h = rw (h.0, h.1)

-- ---- number 13
abbrev pub is_refused : Result (Option Slot) NoSlot → Bool
is_refused (Ok None) = false
is_refused (Ok (Some d)) = false
is_refused (Err _) = true

module _ (cand : Slot → Bool) (new : Slot) (s : List Slot) where
  -- whether a slot is to be had, asked before anything is removed
  pub had-choice : has_slot cand new s ≡ (is_chosen (choice cand s) || any_of (overlaps new) s)
  unfolding has_slot
  had-choice = sym (or_assoc (any_of is_empty s) (any_of cand s) _) ∙ ap (λ b. b || any_of (overlaps new) s) (sym (chosen-any cand s))

  -- an insertion is refused exactly where none is
  pub slot-had : has_slot cand new s ≡ not (is_refused (placed cand new s))
  unfolding placed
  slot-had = had-choice ∙ by-test (any_of (overlaps new) s)
      (λ e. rw (e, or-true (is_chosen (choice cand s))) (sym (refused kept (choice cand kept) ∙ chosen-any cand kept ∙ rw (removed-any-empty (overlaps new) s e))))
      (λ e. rw (e, or-false (is_chosen (choice cand s)), removed-none (overlaps new) s e) (sym (refused s (choice cand s))))
    where
      kept : List Slot
      kept = removed (overlaps new) s

      refused : (t : List Slot) (c : Choice) → not (is_refused (displaced_by t c)) ≡ is_chosen c
      refused t (Empty i) = refl
      refused t (Unused i) = refl
      refused t (Cleared i) = refl
      refused t Full = refl

  -- where none is, it comes to a refusal and leaves the slots
  pub no_slot_lem : has_slot cand new s ≡ false → (placed cand new s ≡ Err (record {})) × (inserted cand new s ≡ s)
  unfolding placed inserted
  no_slot_lem e =
      let f : (is_chosen (choice cand s) || any_of (overlaps new) s) ≡ false = sym had-choice ∙ e in
      let apart : any_of (overlaps new) s ≡ false = or_right (is_chosen (choice cand s)) _ f in
      rw (removed-none (overlaps new) s apart) (go (choice cand s) (or_left _ _ f))
    where
      go : (c : Choice) → is_chosen c ≡ false → (displaced_by s c ≡ Err (record {})) × (stored new s c ≡ s)
      go (Empty i) t = clash refl t
      go (Unused i) t = clash refl t
      go (Cleared i) t = clash refl t
      go Full t = (refl, refl)

-- ---- what an insertion comes to
module _ (cand : Slot → Bool) (new : Slot) (s : List Slot) where
  -- an entry that made way: a candidate of a full side in which none overlapped, in the slot chosen
  pub record Displacement (d : Slot) : Type 0 where
    pub full : any_of is_empty s ≡ false
    pub apart : any_of (overlaps new) s ≡ false
    pub allowed : cand d ≡ true
    pub index : ℕ
    pub within : index < length s
    pub there : get_or s index no_slot ≡ d
    pub chosen : ((choice cand s ≡ Unused index) × (is_used d ≡ false)) ⊎ ((choice cand s ≡ Cleared index) × (any_of (wants cand wanted.Unused) s ≡ false))

  abbrev pub PlacedSays : Result (Option Slot) NoSlot → Type 0
  PlacedSays (Ok None) = (any_of is_empty s || any_of (overlaps new) s) ≡ true
  PlacedSays (Ok (Some d)) = Displacement d
  PlacedSays (Err _) = (any_of is_empty s ≡ false) × (any_of cand s ≡ false) × (any_of (overlaps new) s ≡ false)

  -- an empty or an overlapping entry's slot is taken; else an entry is displaced; else, with no candidate, the insertion is refused
  pub placed-says : PlacedSays (placed cand new s)
  unfolding placed
  placed-says = by-test (any_of (overlaps new) s)
      (λ e. freed e (choice cand kept) (choice-says cand kept))
      (λ e. rw (removed-none (overlaps new) s e) (apart e (choice cand s) refl (choice-says cand s)))
    where
      kept : List Slot
      kept = removed (overlaps new) s

      -- an overlapping entry leaves its slot empty
      freed : any_of (overlaps new) s ≡ true → (c : Choice) → Chosen cand kept c → PlacedSays (displaced_by kept c)
      freed e (Empty i) h = rw e (or-true (any_of is_empty s))
      freed e (Unused i) h = clash (removed-any-empty (overlaps new) s e) h.0
      freed e (Cleared i) h = clash (removed-any-empty (overlaps new) s e) h.0
      freed e Full h = clash (removed-any-empty (overlaps new) s e) h.0

      apart : any_of (overlaps new) s ≡ false → (c : Choice) → choice cand s ≡ c → Chosen cand s c → PlacedSays (displaced_by s c)
      apart e (Empty i) f h = rw (any_at no_slot is_empty s i h.0 h.1)
      apart e (Unused i) f h = record { full = h.0; apart = e; allowed = h.2; index = i; within = h.1; there = refl; chosen = inl (f, h.3) }
      apart e (Cleared i) f h = record { full = h.0; apart = e; allowed = h.3; index = i; within = h.2; there = refl; chosen = inr (f, h.1) }
      apart e Full f h = (h.0, h.1, e)

pub length_inserted : (cand : Slot → Bool) (new : Slot) (s : List Slot) → length (inserted cand new s) ≡ length s
unfolding inserted
length_inserted cand new s = go (removed (overlaps new) s) (choice cand (removed (overlaps new) s)) ∙ length_removed (overlaps new) s
  where
    go : (t : List Slot) (c : Choice) → length (stored new t c) ≡ length t
    go t (Empty i) = length-set t i new
    go t (Unused i) = length-set t i new
    go t (Cleared i) = length-set (clear_used t) i new ∙ length-map t without_used
    go t Full = refl

-- ---- counts under an insertion
-- what the displaced entry had, and what the new one brings
abbrev pub displaced_share : (Slot → Bool) → Result (Option Slot) NoSlot → ℕ
displaced_share p (Ok None) = 0
displaced_share p (Ok (Some d)) = tick (p d)
displaced_share p (Err _) = 0

abbrev pub new_share : (Slot → Bool) → Slot → Result (Option Slot) NoSlot → ℕ
new_share p new (Ok None) = tick (p new)
new_share p new (Ok (Some d)) = tick (p new)
new_share p new (Err _) = 0

-- for a test of entries that is blind to the used bit
module _ (p : Slot → Bool) (lives : (x : Slot) → is_empty x ≡ true → p x ≡ false) (blind : (x : Slot) → p (without_used x) ≡ p x)
    (cand : Slot → Bool) (new : Slot) where
  count-stored : (s : List Slot) (c : Choice) → Chosen cand s c
      → count p (stored new s c) + displaced_share p (displaced_by s c) ≡ count p s + new_share p new (displaced_by s c)
  count-stored s (Empty i) h = omega (arith, count_set p s i new no_slot h.0, ap tick (lives (get_or s i no_slot) h.1))
  count-stored s (Unused i) h = count_set p s i new no_slot h.1
  count-stored s (Cleared i) h = omega (arith, count-cleared p s i new h.2, ap tick (blind (get_or s i no_slot)), count-clear_used p blind s)
  count-stored s Full h = refl

  -- the overlapping and the displaced go, the new one comes, and no other count moves
  pub count-inserted : (s : List Slot)
      → count p (inserted cand new s) + displaced_share p (placed cand new s) ≡ count (λ x. not (overlaps new x) && p x) s + new_share p new (placed cand new s)
  unfolding inserted placed
  count-inserted s =
      let kept : List Slot = removed (overlaps new) s in
      omega (arith, count-stored kept (choice cand kept) (choice-says cand kept), count-removed (overlaps new) p (lives no_slot refl) s)
