-- Demand 3 is met, for any number of slots on either side. Assumes nothing.
use Rattle.std.proofs.Common.{Ok, Err, Option, Result}
use Prim.Native.Nat.{ℕ, zero, suc, ◌+◌, ◌*◌, ◌-◌, ◌/◌, ◌%◌, ◌<◌}
use mathlib.Core.Path.{◌≡◌, refl, sym, ap, ap₂, subst, ◌∙◌}
use mathlib.Core.Bool.{Bool, true, false, not}
use mathlib.Core.List.{List, [], ◌∷◌, ◌++◌, map}
use native.Mathlib.Omega.{arith}
use lib.Dec.{eqb}
use lib.ListN.{length, get_or, take, drop, replicate}
use lib.Seq.{ext_get_or}
use borrow.Author.Tests.{eq-eqb, ne_eqb, eqb-true, eqb-false, leb-true, ltb-true, le-leb, lt-ltb}
use Rattle.laws.specs.Tests.{all_of}
use Rattle.laws.proofs.Bools.{by-test, and_both, and_left, and_right}
use Rattle.machine.specs.State.{Counts, slot_count, State, side_of, state_of, encode, reset, side_fits, sound, words_sound}
use Rattle.machine.specs.Pages.{in_range}
use Rattle.machine.specs.Words.{word_sound}
use Rattle.machine.specs.Slots.{no_slot, is_live}
use Rattle.machine.specs.Insertion.{candidate, has_slot, placed}
use Rattle.machine.specs.Sound.{slot_sound}
use Rattle.machine.specs.Registers.{register_words}
use Rattle.machine.specs.Permission.{permitted}
use Rattle.machine.specs.Questions.{flag_locked, insertion, asked_insertion, asked, ask, verdict}
use Rattle.machine.specs.Step.{placed_answer, act, step_by, step, insert_step}
use Rattle.machine.specs.Access.{Stepped}
use Rattle.machine.specs.Stream.{Bytes, Taken, answer_bytes, after, answers_bytes, run_of}
use Rattle.machine.specs.Serve.{served_of}
use Rattle.machine.specs.Serve as unit
use Rattle.machine.specs.Ledger.{Ledger, line, Written, Name, name_in, address_good, word_good, tag_of, new_entry, first_no}
use Rattle.machine.specs.Ledger.{insertion_questions, mode_allows, questions, lacks_slot, does, enters, enters_insertion, Miss, miss}
use Rattle.machine.specs.Ledger as ledger
use Rattle.machine.specs.Demand3.{unit_bytes, fed, fed_next, fed_after, ledger_bytes, InsertionSays, Says, SaysOf, CommandsSay}
use Rattle.machine.specs.Demand3.{RunSays, ServeSays, Event, run, serve, EventSays, EventsSay, Demand3}
use Rattle.machine.specs.Frame.{entry_in}
use Rattle.machine.specs.Places.{Place, empty, Reference, moved, places_after, places_inserted, miss_told, reference_start, row, reference_words}
use Rattle.machine.specs.Format.{Reading, ReadAs}
use Rattle.machine.specs.Views.{view}
use Rattle.machine.specs.declared.Slot.{Slot}
use Rattle.machine.specs.declared.Refusal.TheVariants as refusal
use Rattle.machine.specs.declared.Answer.TheVariants as answer
use Rattle.machine.specs.declared.Command.{Command}
use Rattle.machine.specs.declared.Command.TheVariants as command
use Rattle.machine.proofs.Views.{Plain, by-view}
use Rattle.machine.proofs.Sound.{entry-live}
use Rattle.machine.proofs.State.{sound-file, sound-encode, words_sound_lem, passed-asked, insertion-sound}
use Rattle.machine.proofs.Runs.{commands_of, run-answered, run-taken, run-stop, run-words, run-front, run_past}
use Rattle.machine.proofs.Readable.{reads-taken, reads-stop}
use Rattle.machine.proofs.Record.{row-length, row_at}
use Rattle.machine.proofs.Records.{records_sound_lem}
use Rattle.machine.proofs.Alike.{SideAlike, Alike, place_in, PlacesAlike, ReferenceAlike}
use Rattle.machine.proofs.Used.{new-used}
use Rattle.machine.proofs.Places.{inserted-side, places-with, side_words_lem}
use Rattle.machine.proofs.Sides.{alike-empty, alike-lacks}
use Rattle.machine.proofs.Questions.{verdict_number, same_number, number_passed, number-refused, slot_left, insertion-number}
use Rattle.machine.proofs.Questions.{refused-alike, passed-alike, refused-bytes, reset-alike, allows, tag_address_lem}
use Rattle.machine.proofs.Questions.{address_good_lem, word_good_lem, word_insertable_lem, insertion-entry}
use Rattle.machine.proofs.Bytes.{line-answer}
use Rattle.machine.proofs.Misses.{MissAlike, refuses, lacks, inserts, miss-alike}
use Rattle.machine.proofs.Looks.{StepAlike, used-alike}
use Rattle.machine.proofs.Commands.{does-alike, does-places, access-told, insertion-says, insert-agrees, insert-alike, insert-refused, alike-side}
use Rattle.machine.specs.declared.Refusal.{Refusal}
use Rattle.machine.specs.declared.NoSlot.{NoSlot}

ruleset conj = (and_left, and_right, ltb-true)

-- ---- one command
-- the bytes agree, what is said of insertions and accesses holds, and the two stay alike
pub record StepSays (hv : Bool) (n : Counts) (u : State) (k : Reference) (c : Command) : Type 0 where
  pub bytes : (fed hv n u k c).bytes ≡ unit_bytes hv u c
  pub says : Says hv n k c (unit_bytes hv u c)
  pub alike : ReferenceAlike n (step hv u c).state (fed_next hv n u k c)

step-refused : (hv : Bool) (n : Counts) (u : State) (k : Reference) (c : Command) → ReferenceAlike n u k
    → (first_no (questions hv k.ledger c) ≡ 0 → ⊥) → StepSays hv n u k c
unfolding step enters places_after
step-refused hv n u k c h e = go (verdict hv u c) (refused-alike h.ledger hv c e)
  where
    go : (v : Result (Unit {0}) Refusal) → verdict_number v ≡ first_no (questions hv k.ledger c) → StepSays hv n u k c
    go (Ok _) f = absurd (e (sym f))
    go (Err r) f =
        let v : verdict hv u c ≡ Err r = same_number (verdict hv u c) (Err r) (refused-alike h.ledger hv c e ∙ sym f) in
        let t : eqb (first_no (questions hv k.ledger c)) 0 ≡ false = ne_eqb _ 0 e in
        record {
          bytes = rw (v, t) (ap (λ (i : ℕ). line 5 i 0 0 0 0) (sym f) ∙ sym (refused-bytes r));
          says = λ f. absurd (e f);
          alike = rw (v, t) h;
        }

-- ---- a command that no question refused: the unit acts, and the ledger does
passed : {n : Counts} {u : State} {l : Ledger} → Alike n u l → (hv : Bool) (c : Command) → slot_left u c ≡ true → first_no (questions hv l c) ≡ 0
    → verdict hv u c ≡ Ok tt
passed {u} h hv c f e = number_passed (verdict hv u c) (passed-alike h hv c e ∙ rw f)

step-passed : {n : Counts} {u : State} {k : Reference} (hv : Bool) (c : Command) → verdict hv u c ≡ Ok tt → first_no (questions hv k.ledger c) ≡ 0
    → StepAlike n (act u c) (does (slot_count n) k.ledger c (name_in (unit_bytes hv u c))) → PlacesAlike (act u c).state (moved (slot_count n) k c)
    → SaysOf n k (view c) (unit_bytes hv u c) → StepSays hv n u k c
unfolding step enters places_after
step-passed hv c v e s p y = record {
  bytes = rw (v, e) (sym (rw v at s.bytes));
  says = λ _. y;
  alike = record { ledger = rw (v, e) (rw v at s.alike); places = rw (v, e) p };
}

-- what is said of one that is no insertion
says-passed : {n : Counts} {u : State} {k : Reference} → ReferenceAlike n u k → (hv : Bool) (c : Command) → Plain (view c) → verdict hv u c ≡ Ok tt
    → SaysOf n k (view c) (answer_bytes (act u c).answer)
unfolding act asked all_of
says-passed {u} h hv =
    by-view (λ strand side flags word t v. absurd t) (λ strand kind selector size address t v.
    let q = passed-asked hv u (command.Access strand kind selector size address) v in
    let s : strand < 4 = search conj in
    rw (← (used-alike h.ledger strand address s)) (access-told h.ledger _ s (search conj))) (λ c e t v. rw e tt)

-- one that passed and is no insertion
step-plain : {n : Counts} {u : State} {k : Reference} → ReferenceAlike n u k → (hv : Bool) (c : Command) → Plain (view c) → slot_left u c ≡ true
    → first_no (questions hv k.ledger c) ≡ 0 → StepSays hv n u k c
unfolding step
step-plain {u} h hv c t f e =
    let v = passed h.ledger hv c f e in
    step-passed hv c v e (does-alike h.ledger hv c v _ t) (does-places h hv c v t) (rw v (says-passed h hv c t v))

-- ---- an insertion from 11 on: a command's, or that of a served miss
pub first_fine : (k : ℕ) (b : Bool) (qs : List (ℕ × Bool)) → (k ≡ 0 → ⊥) → first_no ((k, b) ∷ qs) ≡ 0 → (b ≡ true) × (first_no qs ≡ 0)
unfolding first_no
first_fine k true qs z e = (refl, e)
first_fine k false qs z e = absurd (z e)

-- ledger and places after it
abbrev inserted : Counts → Reference → ℕ → ℕ → ℕ → ℕ → Name → Reference
inserted n k strand side flags word d = record {
  ledger = (enters_insertion (slot_count n) k.ledger strand side flags word d).ledger;
  places = places_inserted (slot_count n) k strand side flags word;
}

-- b is the unit's answer, v the state that it leaves
record InsertSays (n : Counts) (k : Reference) (strand side flags word : ℕ) (b : Bytes) (v : State) : Type 0 where
  bytes : (enters_insertion (slot_count n) k.ledger strand side flags word (name_in b)).bytes ≡ b
  says : first_no (insertion_questions k.ledger strand side word) ≡ 0
      → InsertionSays (slot_count n side) (k.places side) (k.ledger.entries side) (new_entry k.ledger strand side flags word) b
  alike : ReferenceAlike n v (inserted n k strand side flags word (name_in b))

module _ {n : Counts} {u : State} {k : Reference} (a : ReferenceAlike n u k) (strand side flags word : ℕ)
    (s : strand < 4) (d : side < 2) (f : flags < 4) where
  abbrev l : Ledger
  l = k.ledger

  h : Alike n u l
  h = a.ledger

  abbrev number : ℕ
  number = first_no (insertion_questions l strand side word)

  abbrev asks : Result (Unit {0}) Refusal
  asks = ask (asked_insertion u strand side flags word)

  abbrev new : Slot
  new = insertion u strand side flags word

  abbrev slotted : Bool
  slotted = has_slot candidate new (side_of u side)

  -- 11 and 12: both leave everything
  not-inserted : (number ≡ 0 → ⊥)
      → InsertSays n k strand side flags word (answer_bytes (insert_step u strand side flags word).answer) (insert_step u strand side flags word).state
  unfolding insert_step enters_insertion places_inserted
  not-inserted e = go asks refused
    where
      refused : verdict_number asks ≡ number
      refused = insertion-number h strand side flags word s d ∙ rw (ne_eqb number 0 e)

      go : (v : Result (Unit {0}) Refusal) → verdict_number v ≡ number → InsertSays n k strand side flags word
          (answer_bytes (step_by asks u (command.Insert strand side flags word)).answer) (step_by asks u (command.Insert strand side flags word)).state
      go (Ok _) g = absurd (e (sym g))
      go (Err r) g =
          let v : asks ≡ Err r = same_number asks (Err r) (refused ∙ sym g) in
          let t : eqb number 0 ≡ false = ne_eqb number 0 e in
          record {
            bytes = rw (v, t) (ap (λ (i : ℕ). line 5 i 0 0 0 0) (sym g) ∙ sym (refused-bytes r));
            says = λ z. absurd (e z);
            alike = rw (v, t) a;
          }

  module _ (e : number ≡ 0) where
    abbrev told : Result (Option Slot) NoSlot
    told = placed candidate new (side_of u side)

    words : word_good word ≡ true
    unfolding insertion_questions
    words = (first_fine 12 _ _ (λ z. omega arith) (first_fine 11 _ _ (λ z. omega arith) e).1).0

    address : address_good (tag_of l strand side - tag_of l strand side % 8192) ≡ true
    unfolding insertion_questions
    address = (first_fine 11 _ _ (λ z. omega arith) e).0

    good : word_sound word ≡ true
    good = sym (word_good_lem word) ∙ words

    new-sound : slot_sound new ≡ true
    new-sound =
        insertion-sound u strand side flags word
        (sym (ap in_range (tag_address_lem h strand s side d)) ∙ sym (address_good_lem _) ∙ address) (sym (word_insertable_lem word) ∙ words)

    new-live : is_live new ≡ true
    new-live = entry-live _ (flag_locked flags) word good

    -- the new entry is the ledger's
    same_entry_lem : entry_in new ≡ new_entry l strand side flags word
    same_entry_lem = insertion-entry h strand side flags word s d f good

    -- the unit's answer, by whether a slot is to be had
    had : slotted ≡ true → asks ≡ Ok tt
    had t = number_passed asks (insertion-number h strand side flags word s d ∙ rw (e, t))

    lacked : slotted ≡ false → asks ≡ Err refusal.NoSlot
    lacked t = number-refused asks refusal.NoSlot (insertion-number h strand side flags word s d ∙ rw (e, t))

    unit-answer : answer_bytes (insert_step u strand side flags word).answer ≡ answer_bytes (placed_answer told)
    unfolding insert_step act
    unit-answer = by-test slotted
        (λ t. rw (had t))
        (λ t. rw (lacked t, (insert-refused h side d new new-sound new-live t).0))

    -- and what the ledger does with it
    ledger-does : enters_insertion (slot_count n) l strand side flags word (name_in (answer_bytes (insert_step u strand side flags word).answer))
        ≡ ledger.inserts (slot_count n side) l side (entry_in new) (name_in (answer_bytes (placed_answer told)))
    unfolding enters_insertion
    ledger-does = rw (e, unit-answer, same_entry_lem)

    after-step : Alike n (insert_step u strand side flags word).state
        (ledger.inserts (slot_count n side) l side (entry_in new) (name_in (answer_bytes (placed_answer told)))).ledger
    unfolding insert_step act
    after-step = by-test slotted
        (λ t. rw (had t) (insert-alike h side d new new-sound new-live t))
        (λ t. rw (lacked t, (insert-refused h side d new new-sound new-live t).1) h)

    after-places : PlacesAlike (insert_step u strand side flags word).state (places_inserted (slot_count n) k strand side flags word)
    unfolding insert_step act places_inserted moved
    after-places =
        let none : lacks_slot (slot_count n side) (new_entry l strand side flags word) (l.entries side) ≡ not slotted =
        rw (← same_entry_lem) (alike-lacks (alike-side side d h) new new-sound new-live) in
        by-test slotted
        (λ t. rw (e, had t, none, t, ← same_entry_lem, a.places.at side d)
        (places-with a.places side d _
        (inserted-side new new-sound new-live (new-used _ (flag_locked flags) word) (side_of u side) (alike-side side d h).sound t)))
        (λ t. rw (e, lacked t, none, t) a.places)

    is_inserted : InsertSays n k strand side flags word (answer_bytes (insert_step u strand side flags word).answer) (insert_step u strand side flags word).state
    is_inserted = record {
      bytes = ap (λ (w : Written). w.bytes) ledger-does ∙ (insert-agrees h side d new new-sound new-live told refl).0 ∙ sym unit-answer;
      says = λ _. rw (unit-answer, ← same_entry_lem, a.places.at side d) (insertion-says (alike-side side d h) new new-sound new-live);
      alike = record {
        ledger = subst (λ (w : Written). Alike n (insert_step u strand side flags word).state w.ledger) (sym ledger-does) after-step;
        places = after-places;
      };
    }

  insert-says : InsertSays n k strand side flags word (answer_bytes (insert_step u strand side flags word).answer) (insert_step u strand side flags word).state
  insert-says = by-test (eqb number 0) (λ t. is_inserted (eqb-true number 0 t)) (λ t. not-inserted (eqb-false number 0 t))

  -- a command that 5, 6, 8 and 16 do not refuse comes to it, in the unit, the ledger and the places
  abbrev c : Command
  c = command.Insert strand side flags word

  module _ (hv : Bool) (m : mode_allows l strand (eqb flags 0) ≡ true) where
    same_step : step hv u c ≡ insert_step u strand side flags word
    unfolding step verdict asked permitted ask insert_step
    same_step = rw (lt-ltb strand 4 s, lt-ltb side 2 d, lt-ltb flags 4 f, sym (allows h strand s refl) ∙ m)

    same_first : first_no (questions hv l c) ≡ number
    unfolding questions first_no
    same_first = rw (le-leb strand 3 (omega arith), le-leb side 1 (omega arith), le-leb flags 3 (omega arith), m)

    same-enters : (x : Name) → enters hv (slot_count n) l c x ≡ enters_insertion (slot_count n) l strand side flags word x
    unfolding enters does enters_insertion
    same-enters x = rw same_first

    same-places : places_after hv (slot_count n) k c ≡ places_inserted (slot_count n) k strand side flags word
    unfolding places_after places_inserted
    same-places = rw same_first

    step-insert : StepSays hv n u k c
    step-insert = record {
      bytes = rw (same_step, same-enters) insert-says.bytes;
      says = λ e. rw same_step (insert-says.says (sym same_first ∙ e));
      alike = rw (same_step, same-enters, same-places) insert-says.alike;
    }

asked-16 : (hv : Bool) (l : Ledger) (strand side flags word : ℕ) → first_no (questions hv l (command.Insert strand side flags word)) ≡ 0
    → (strand < 4) × (side < 2) × (flags < 4) × (mode_allows l strand (eqb flags 0) ≡ true)
unfolding questions
asked-16 hv l strand side flags word e =
    let a = first_fine 5 _ _ (λ z. omega arith) e in
    let b = first_fine 6 _ _ (λ z. omega arith) a.1 in
    let c = first_fine 8 _ _ (λ z. omega arith) b.1 in
    let m = first_fine 16 _ _ (λ z. omega arith) c.1 in
    (omega (arith, leb-true strand 3 a.0), omega (arith, leb-true side 1 b.0), omega (arith, leb-true flags 3 c.0), m.0)

pub step-says : (hv : Bool) (n : Counts) (u : State) (k : Reference) (c : Command) → ReferenceAlike n u k → StepSays hv n u k c
step-says hv n u k c h =
    by-test (eqb (first_no (questions hv k.ledger c)) 0) (λ t. by_command_lem c (eqb-true _ 0 t)) (λ t. step-refused hv n u k c h (eqb-false _ 0 t))
  where
    by_command_lem : (c : Command) → first_no (questions hv k.ledger c) ≡ 0 → StepSays hv n u k c
    by_command_lem =
        by-view (λ strand side flags word e.
        let (s, d, f, m) = asked-16 hv k.ledger strand side flags word e in
        step-insert h strand side flags word s d f hv m)
        (λ strand kind selector size address. step-plain h hv (command.Access strand kind selector size address) tt refl)
        (λ c e. step-plain h hv c (rw e tt) (rw e))

-- ---- a state that some ledger describes is sound
side_fits_lem : {n : ℕ} {s : _} {m : _} → SideAlike n s m → side_fits n s ≡ true
unfolding side_fits
side_fits_lem h = and_both _ _ (eq-eqb _ _ h.size) h.sound

pub alike-sound : (n : Counts) (u : State) (l : Ledger) → Alike n u l → sound n u ≡ true
unfolding sound
alike-sound n u l h = and_both _ _ h.allowed (and_both _ _ (side_fits_lem h.itlb) (and_both _ _ (side_fits_lem h.dtlb) (records_sound_lem h.records)))

-- ---- a list of commands
-- the words of a state and of the book beside it
pub alike-words : {n : Counts} {u : State} {k : Reference} → ReferenceAlike n u k → encode u ≡ reference_words k
unfolding encode reference_words
alike-words {u} {k} h =
    let file : u.registers ≡ row (λ i. k.ledger.registers (i / 32) (i % 32)) 128 =
    ext_get_or 0 u.registers _ (size ∙ sym (row-length _ 128)) (λ i c.
    let small : i < 128 = omega (arith, size) in
    let whole : i / 32 * 32 + i % 32 ≡ i = omega arith in
    ap (λ j. get_or u.registers j 0) (sym whole) ∙ sym (h.ledger.registers (i / 32) (i % 32) (omega arith) (omega arith)) ∙ sym (row_at _ 128 i small)) in
    rw (
      h.places.at 0 (omega arith),
      h.places.at 1 (omega arith),
      ← file,
      side_words_lem u.itlb h.ledger.itlb.sound,
      side_words_lem u.dtlb h.ledger.dtlb.sound,
      h.ledger.records.seen,
      h.ledger.records.newest,
      h.ledger.records.older,
    )
  where
    size : length u.registers ≡ register_words
    size = sound-file u.registers h.ledger.allowed

pub record Agrees (hv : Bool) (n : Counts) (u : State) (k : Reference) (cs : List Command) : Type 0 where
  pub say : CommandsSay hv n u k cs
  pub bytes : ledger_bytes hv n u k cs ≡ answers_bytes hv u cs
  pub alike : ReferenceAlike n (after hv u cs) (fed_after hv n u k cs)

pub commands-agree : (hv : Bool) (n : Counts) (u : State) (k : Reference) (cs : List Command) → ReferenceAlike n u k → Agrees hv n u k cs
unfolding ledger_bytes answers_bytes fed_after after
commands-agree hv n u k [] h = record { say = alike-words h; bytes = refl; alike = h }
commands-agree hv n u k (c ∷ cs) h =
    let s = step-says hv n u k c h in
    let r = commands-agree hv n (step hv u c).state (fed_next hv n u k c) cs s.alike in
    record {
      say = (alike-words h, s.bytes, s.says, r.say);
      bytes = ap₂ (λ (a b : Bytes). a ++ b) s.bytes r.bytes;
      alike = r.alike;
    }

-- ---- a run
module _ (hv : Bool) (n : Counts) (words : List ℕ) (input output : Bytes) (w : words_sound n words ≡ true)
    (t : Reading) (x : ReadAs input (length output) t) where
  abbrev cs : List Command
  cs = t.commands

  -- what it takes is what is read
  same-commands : commands_of input output ≡ cs
  same-commands = ap (λ (y : Taken). y.commands) (reads-taken input (length output) x)

  pub read-words : (run_of hv n words input output).words ≡ encode (after hv (state_of n words) cs)
  read-words = rw same-commands at (run-words hv n words input output w)

  pub read-answered : (run_of hv n words input output).answered ≡ length cs
  read-answered = rw same-commands at (run-answered hv n words input output w)

  pub read_taken : (run_of hv n words input output).taken ≡ length input - length t.rest
  read_taken = run-taken hv n words input output w ∙ ap (λ (y : Taken). y.width) (reads-taken input (length output) x)

  pub read-stop : (run_of hv n words input output).stop ≡ t.stop
  read-stop = run-stop hv n words input output w ∙ ap (λ (y : Taken). y.stop) (reads-taken input (length output) x)

  pub read-front : take (length cs * 24) (run_of hv n words input output).output ≡ answers_bytes hv (state_of n words) cs
  read-front = rw (read-answered, same-commands) at (run-front hv n words input output w)

  pub read_past : drop (length cs * 24) (run_of hv n words input output).output ≡ drop (length cs * 24) output
  read_past = rw read-answered at (run_past hv n words input output w)

  run-says : (k : Reference) → ReferenceAlike n (state_of n words) k → RunSays hv n words k input output t
  run-says k h =
      let r = commands-agree hv n (state_of n words) k cs h in
      record {
        sound = λ e. reads-stop x (sym read-stop ∙ e);
        stop = read-stop;
        taken = read_taken;
        answered = read-answered;
        front = read-front ∙ sym r.bytes;
        past = read_past;
        commands = r.say;
      }

-- ---- a served miss
-- what is said of it, with the state that it leaves
pub record ServeAlike (n : Counts) (k : Reference) (strand side : ℕ) (m : Miss) (t : Stepped) : Type 0 where
  pub says : ServeSays n k strand side m (answer_bytes t.answer)
  pub alike : ReferenceAlike n t.state (miss_told (slot_count n) k strand side m (name_in (answer_bytes t.answer)))

absent-bytes : answer_bytes answer.NotInTable ≡ line 6 0 0 0 0 0
unfolding answer_bytes
absent-bytes = line-answer 6 0 0 (omega arith) (omega arith) (omega arith)

serve_by_lem : {n : Counts} {u : State} {k : Reference} → ReferenceAlike n u k → (strand side : ℕ) {m : Miss} {t : Stepped} → MissAlike u strand side m t
    → ServeAlike n k strand side m t
serve_by_lem h strand side (refuses r) = record { says = record { bytes = sym (refused-bytes r); says = tt }; alike = h }
serve_by_lem h strand side lacks = record { says = record { bytes = sym absent-bytes; says = tt }; alike = h }
serve_by_lem h strand side (inserts word s d) =
    let r = insert-says h strand side 0 word s d (omega arith) in
    record { says = record { bytes = r.bytes; says = r.says }; alike = r.alike }

pub serve-says : {n : Counts} {u : State} {k : Reference} → ReferenceAlike n u k → (strand side : ℕ) (of_zero of_other : Bytes)
    → ServeAlike n k strand side (miss k.ledger strand side of_zero of_other) (unit.serve u strand side of_zero of_other)
serve-says h strand side of_zero of_other = serve_by_lem h strand side (miss-alike h.ledger strand side of_zero of_other)

-- ---- every list, from any state that a reference describes
-- one event: what it leaves is alike again
event-says : (n : Counts) (e : Event) (u : State) (k : Reference) (Then : List ℕ → Reference → Type 0) → ReferenceAlike n u k
    → ((v : State) (l : Reference) → ReferenceAlike n v l → Then (encode v) l) → EventSays n (encode u) k e Then
unfolding served_of
event-says n (run hv input output) u k Then h then =
    let s : sound n u ≡ true = alike-sound n u k.ledger h.ledger in
    let back : state_of n (encode u) ≡ u = sound-encode n u s in
    let w : words_sound n (encode u) ≡ true = words_sound_lem n u s in
    let g : ReferenceAlike n (state_of n (encode u)) k = rw back h in
    λ t x.
    let r = commands-agree hv n (state_of n (encode u)) k t.commands g in
    (run-says hv n (encode u) input output w t x k g, rw (read-words hv n (encode u) input output w t x) (then _ _ r.alike))
event-says n (serve strand side of_zero of_other) u k Then h then =
    let s : sound n u ≡ true = alike-sound n u k.ledger h.ledger in
    let r = serve-says h strand side of_zero of_other in
    rw (words_sound_lem n u s, sound-encode n u s) (r.says, then _ _ r.alike)

pub events-say : (n : Counts) (es : List Event) (u : State) (k : Reference) → ReferenceAlike n u k → EventsSay n (encode u) k es
events-say n [] u k h = alike-words h
events-say n (e ∷ es) u k h = (alike-words h, event-says n e u k (λ w l. EventsSay n w l es) h (λ v l a. events-say n es v l a))

pub start-alike : (n : Counts) → ReferenceAlike n (reset n) (reference_start (slot_count n))
unfolding reset
start-alike n = record {
  ledger = reset-alike n (alike-empty n.itlb) (alike-empty n.dtlb);
  places = record { at = λ side b. by-test (eqb side 0) (λ e. rw e (none n.itlb)) (λ e. rw e (none n.dtlb)) };
}
  where
    none : (m : ℕ) → replicate m empty ≡ map place_in (replicate m no_slot)
    none zero = refl
    none (suc m) = ap (λ (r : List Place). empty ∷ r) (none m)

pub demand3 : (n : Counts) → Demand3 n
unfolding Demand3
demand3 n es = events-say n es (reset n) (reference_start (slot_count n)) (start-alike n)
