-- The ledger with its places, fed the bytes alone, does what it does when it is fed the unit's names: the unit's runs are told by it. Assumes nothing.
use Rattle.std.proofs.Common.{Some}
use Prim.Native.Nat.{ℕ, ◌*◌, ◌≤◌}
use mathlib.Core.Path.{◌≡◌, refl, ap, ap₂, sym, subst, fun_ext, ◌∙◌}
use mathlib.Core.Bool.{Bool, true, ◌&&◌}
use mathlib.Core.List.{List, [], ◌∷◌, ◌++◌}
use native.Mathlib.Omega.{arith}
use lib.Dec.{eqb}
use lib.ListN.{length, take, drop, take-append-drop}
use borrow.Author.Tests.{eq-eqb, ne_eqb, eqb-true, eqb-false}
use Rattle.laws.specs.Passing.{how_many, none_passes}
use Rattle.laws.proofs.Bools.{by-test, clash, and_both, and_left, and_right}
use Rattle.machine.specs.State.{Counts, counts, slot_count, state_words, State, state_of, encode, sound, words_sound, reset, reset_of, reset_number}
use Rattle.machine.specs.Step.{step}
use Rattle.machine.specs.Stream.{Bytes, answer_bytes, Outcome, after, answers_bytes, run_of}
use Rattle.machine.specs.Serve.{part_of, Served, served_of}
use Rattle.machine.specs.Serve as unit
use Rattle.machine.specs.Ledger.{Entry, Ledger, overlap, unlocked, Name, name_in, is_named, first_no}
use Rattle.machine.specs.Ledger.{insertion_questions, questions, lacks_slot, Written, inserts, does, enters}
use Rattle.machine.specs.Ledger.{Miss, refused, absent, present, miss, enters_insertion, serves}
use Rattle.machine.specs.Places.{Place, slots, Reference, displaced_from, places_after, reference_start, reference_words}
use Rattle.machine.specs.Format.{Reading, ReadAs}
use Rattle.machine.specs.Demand3.{unit_bytes, fed_next, fed_after, ledger_bytes, InsertionSays, MissSays, Event, run, serve}
use Rattle.machine.specs.Good.{ReferenceGood}
use Rattle.machine.specs.Reference.{name_of, displaced_name, reference_next, reference_after, reference_bytes, Leaves}
use Rattle.machine.specs.Reference.{miss_name, miss_next, ServeLeaves, Hands, RunTold, ServeTold, PartTold, ResetTold, returned, EventsTold, Told}
use Rattle.machine.specs.declared.Command.{Command}
use Rattle.machine.specs.declared.Command.TheVariants as command
use Rattle.machine.proofs.State.{reset-sound, sound-encode, words_sound_lem}
use Rattle.machine.proofs.Runs.{run-unsound}
use Rattle.machine.proofs.Alike.{ReferenceAlike}
use Rattle.machine.proofs.Questions.{unsound-bytes}
use Rattle.machine.proofs.Misses.{hands}
use Rattle.machine.proofs.Demand3.{ServeAlike, serve-says, step-says, alike-sound, alike-words, commands-agree, read-words}
use Rattle.machine.proofs.Demand3.{read-answered, read_taken, read-stop, read-front, read_past, start-alike}
use Rattle.machine.proofs.Good.{alike-good, state_for, good-alike, unsound-words}

ruleset conj = (and_left, and_right, eqb-true)

-- ---- one command
-- a name is that of one entry
name-is : (d : Name) (e : Entry) → is_named d e ≡ true → d ≡ name_of (Some e)
unfolding is_named
name-is d e h =
    let a : d.partition ≡ (name_of (Some e)).partition = search conj in
    let b : d.real ≡ (name_of (Some e)).real = search conj in
    let c : d.place ≡ (name_of (Some e)).place = search conj in
    let f : d.word ≡ (name_of (Some e)).word = search conj in
    λ i. record { partition = a i; real = b i; place = c i; word = f i }

-- the ledger reads a name only where it displaces
name-read : (n : ℕ) (l : Ledger) (side : ℕ) (e : Entry) {d c : Name}
    → ((length (l.entries side) ≡ n) × (how_many (overlap e) (l.entries side) ≡ 0) × (1 ≤ how_many unlocked (l.entries side)) → d ≡ c)
    → inserts n l side e d ≡ inserts n l side e c
unfolding inserts
name-read n l side e {d} {c} k =
    let m : List Entry = l.entries side in
    by-test (lacks_slot n e m) (λ t. rw t) (λ t. by-test (eqb (length m) n && none_passes (overlap e) m)
    (λ f.
    let full : length m ≡ n = search conj in
    let apart : how_many (overlap e) m ≡ 0 = search conj in
    let free : 1 ≤ how_many unlocked m = by-test (none_passes unlocked m)
    (λ z. clash (and_both _ _ (eq-eqb _ _ full) (and_both _ _ z (eq-eqb _ 0 apart))) t)
    (λ z. omega (arith, eqb-false (how_many unlocked m) 0 z)) in
    ap (λ (x : Name). inserts n l side e x) (k (full, apart, free)))
    (λ f. rw (t, f)))

-- and there the unit's answer names the entry that the places pick
own_name : (n : ℕ) (l : Ledger) (side : ℕ) (e : Entry) (s : List Place) (b : Bytes) → InsertionSays n s (l.entries side) e b
    → inserts n l side e (name_in b) ≡ inserts n l side e (name_of (displaced_from s))
own_name n l side e s b y = name-read n l side e (λ z.
    let (x, way, name, live, free) = y.named (y.displaced.1 z) in
    name-is _ x name ∙ ap name_of (sym way))

module _ {n : Counts} {u : State} {k : Reference} (h : ReferenceAlike n u k) where
  own-entered : (hv : Bool) (c : Command)
      → enters hv (slot_count n) k.ledger c (name_in (unit_bytes hv u c)) ≡ enters hv (slot_count n) k.ledger c (displaced_name k c)
  unfolding enters does
  own-entered hv (command.Write strand number value) = refl
  own-entered hv (command.Insert strand side flags word) = by-test (eqb (first_no (questions hv k.ledger (command.Insert strand side flags word))) 0)
      (λ t. rw t (own_name _ _ _ _ _ _ ((step-says hv n u k (command.Insert strand side flags word) h).says (eqb-true _ 0 t))))
      (λ t. rw t)
  own-entered hv (command.DemapPage strand side selector flags address) = refl
  own-entered hv (command.DemapContext strand side selector) = refl
  own-entered hv (command.DemapAll strand side) = refl
  own-entered hv (command.Invalidate side) = refl
  own-entered hv (command.Access strand kind selector size address) = refl
  own-entered hv (command.Read strand number) = refl
  own-entered hv (command.Pointers strand side) = refl
  own-entered hv (command.Rate strand side) = refl

  pub own-next : (hv : Bool) (c : Command) → fed_next hv n u k c ≡ reference_next hv (slot_count n) k c
  own-next hv c = ap (λ (w : Written). record { ledger = w.ledger; places = places_after hv (slot_count n) k c }) (own-entered hv c)

-- ---- a served miss
own-served : (n : Counts) (k : Reference) (strand side : ℕ) (m : Miss) (b : Bytes) → MissSays n k strand side m b
    → serves (slot_count n) k.ledger strand side m (name_in b) ≡ serves (slot_count n) k.ledger strand side m (miss_name k side)
unfolding enters_insertion
own-served n k strand side (refused number) b y = refl
own-served n k strand side absent b y = refl
own-served n k strand side (present word) b y = by-test (eqb (first_no (insertion_questions k.ledger strand side word)) 0)
    (λ t. rw t (own_name _ _ _ _ _ _ (y (eqb-true _ 0 t))))
    (λ t. rw t)

-- ---- a list of commands
own-agree : (hv : Bool) (n : Counts) (u : State) (k : Reference) (cs : List Command) → ReferenceAlike n u k
    → (fed_after hv n u k cs ≡ reference_after hv (slot_count n) k cs) × (ledger_bytes hv n u k cs ≡ reference_bytes hv (slot_count n) k cs)
unfolding fed_after reference_after ledger_bytes reference_bytes
own-agree hv n u k [] h = (refl, refl)
own-agree hv n u k (c ∷ cs) h =
    let s = step-says hv n u k c h in
    let (a, b) = own-agree hv n (step hv u c).state (fed_next hv n u k c) cs s.alike in
    let e = own-next h hv c in (
      a ∙ ap (λ (x : Reference). reference_after hv (slot_count n) x cs) e,
      ap₂ (λ (x y : Bytes). x ++ y) (ap (λ (w : Written). w.bytes) (own-entered h hv c)) (b ∙ ap (λ (x : Reference). reference_bytes hv (slot_count n) x cs) e),
    )

-- ---- a run
module _ (n : Counts) (k : Reference) (g : ReferenceGood (slot_count n) k) where
  abbrev u : State
  u = state_for n k g

  alike : ReferenceAlike n u k
  alike = good-alike n k g

  good-sound : sound n u ≡ true
  good-sound = alike-sound n u k.ledger alike.ledger

  next-good : (hv : Bool) (c : Command) → ReferenceGood (slot_count n) (reference_next hv (slot_count n) k c)
  next-good hv c = rw (own-next alike hv c) at (alike-good (step-says hv n u k c alike).alike)

  -- ---- a miss
  module _ (strand side : ℕ) (of_zero of_other : Bytes) where
    served : ServeAlike n k strand side (miss k.ledger strand side of_zero of_other) (unit.serve u strand side of_zero of_other)
    served = serve-says alike strand side of_zero of_other

    own-miss : serves (slot_count n) k.ledger strand side (miss k.ledger strand side of_zero of_other)
        (name_in (answer_bytes (unit.serve u strand side of_zero of_other).answer))
        ≡ serves (slot_count n) k.ledger strand side (miss k.ledger strand side of_zero of_other) (miss_name k side)
    own-miss = own-served n k strand side (miss k.ledger strand side of_zero of_other) _ served.says.says

    miss_next_lem : ReferenceAlike n (unit.serve u strand side of_zero of_other).state (miss_next (slot_count n) k strand side of_zero of_other)
    miss_next_lem = rw own-miss at served.alike

    serve-leaves :
        let o : Served = served_of n (reference_words k) strand side of_zero of_other in
        ServeLeaves (slot_count n) k strand side of_zero of_other o.words (answer_bytes o.answer)
    unfolding served_of
    serve-leaves = rw (← (alike-words alike), words_sound_lem n u good-sound, sound-encode n u good-sound) (record {
      words = alike-words miss_next_lem;
      bytes = sym served.says.bytes ∙ ap (λ (w : Written). w.bytes) own-miss;
    })

    part-hands : Hands k.ledger strand side of_zero of_other (part_of n (reference_words k) strand side of_zero of_other)
    unfolding part_of
    part-hands = rw (← (alike-words alike), words_sound_lem n u good-sound, sound-encode n u good-sound) (hands alike.ledger strand side of_zero of_other)

  -- ---- a run
  module _ (hv : Bool) (input output : Bytes) (t : Reading) (x : ReadAs input (length output) t) where
    abbrev cs : List Command
    cs = t.commands

    after-alike : ReferenceAlike n (after hv u cs) (reference_after hv (slot_count n) k cs)
    after-alike = rw (own-agree hv n u k cs alike).0 at (commands-agree hv n u k cs alike).alike

    pub after-good : ReferenceGood (slot_count n) (reference_after hv (slot_count n) k cs)
    after-good = alike-good after-alike

    run-leaves :
        let o : Outcome = run_of hv n (reference_words k) input output in
        Leaves hv (slot_count n) k input output t o.words o.output (returned o)
    run-leaves =
        let w : words_sound n (encode u) ≡ true = words_sound_lem n u good-sound in
        let back : state_of n (encode u) ≡ u = sound-encode n u good-sound in
        let m : ℕ = length cs * 24 in
        let o : Outcome = run_of hv n (encode u) input output in
        let front : take m o.output ≡ answers_bytes hv u cs = rw back at (read-front hv n (encode u) input output w t x) in
        let past : drop m o.output ≡ drop m output = read_past hv n (encode u) input output w t x in
        let words : o.words ≡ encode (after hv u cs) = rw back at (read-words hv n (encode u) input output w t x) in
        rw (← (alike-words alike)) (record {
          words = words ∙ alike-words after-alike;
          bytes = sym (take-append-drop m o.output) ∙ rw (front, past, ← (commands-agree hv n u k cs alike).bytes, (own-agree hv n u k cs alike).1);
          answered = read-answered hv n (encode u) input output w t x;
          taken = read_taken hv n (encode u) input output w t x;
          stop = read-stop hv n (encode u) input output w t x;
        })

run-told : (hv : Bool) (n : Counts) (words : List ℕ) (input output : Bytes) →
    let o : Outcome = run_of hv n words input output in
    RunTold hv (slot_count n) words input output o.words o.output (returned o)
run-told hv n words input output = record {
  unsound = λ f. rw (run-unsound hv n words input output (unsound-words n words f)) (refl, refl, refl, refl, refl);
  sound = λ k g e t x. rw e (run-leaves n k g hv input output t x);
}

serve-told : (n : Counts) (words : List ℕ) (strand side : ℕ) (of_zero of_other : Bytes) →
    let o : Served = served_of n words strand side of_zero of_other in
    ServeTold (slot_count n) words strand side of_zero of_other o.words (answer_bytes o.answer)
unfolding served_of
serve-told n words strand side of_zero of_other = record {
  unsound = λ f. rw (unsound-words n words f) (refl, unsound-bytes);
  sound = λ k g e. rw e (serve-leaves n k g strand side of_zero of_other);
}

part-told : (n : Counts) (words : List ℕ) (strand side : ℕ) (of_zero of_other : Bytes)
    → PartTold (slot_count n) words strand side of_zero of_other (part_of n words strand side of_zero of_other)
unfolding part_of
part-told n words strand side of_zero of_other = record {
  unsound = λ f. rw (unsound-words n words f);
  sound = λ k g e. rw e (part-hands n k g strand side of_zero of_other);
}

lists-told : (n : Counts) (es : List Event) (k : Reference) → ReferenceGood (slot_count n) k → EventsTold n (slot_count n) k es
lists-told n [] k g = tt
lists-told n (run hv input output ∷ es) k g = λ t x. (run-leaves n k g hv input output t x, lists-told n es _ (after-good n k g hv input output t x))
lists-told n (serve strand side of_zero of_other ∷ es) k g =
    (serve-leaves n k g strand side of_zero of_other, lists-told n es _ (alike-good (miss_next_lem n k g strand side of_zero of_other)))

-- ---- reset
reset-told : (n : Counts) (words : List ℕ) → ResetTold (slot_count n) words (reset_of n words) (reset_number n words)
unfolding reset_of reset_number words_sound
reset-told n words =
    let e = alike-words (start-alike n) in
    let size : length (reference_words (reference_start (slot_count n))) ≡ state_words n =
    sym (ap length e) ∙ eqb-true _ _ (and_left _ _ (words_sound_lem n (reset n) (reset-sound n))) in
    record {
      reset = λ h. rw (eq-eqb _ _ (h ∙ size)) (e, refl);
      other = λ h. rw (ne_eqb _ _ (λ z. h (z ∙ sym size))) (refl, refl);
    }

pub told : (n : Counts) → Told n (slot_count n)
told n = record {
  reset = reset-told n;
  run = λ hv. run-told hv n;
  serve = serve-told n;
  part = part-told n;
  start = alike-good (start-alike n);
  kept = λ hv k c g. next-good n k g hv c;
  missed = λ k strand side of_zero of_other g. alike-good (miss_next_lem n k g strand side of_zero of_other);
  lists = λ k g es. lists-told n es k g;
}

-- "64 slots each"
pub both-sides : slot_count counts ≡ slots
both-sides = fun_ext (λ side. by-test (eqb side 0) (λ e. rw e) (λ e. rw e))

pub sold : Told counts slots
sold = subst (Told counts) both-sides (told counts)
