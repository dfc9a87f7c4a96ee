-- Demand 3: what is claimed of every list of runs and served misses from reset.
-- Assumes nothing.
use Rattle.std.specs.Prelude.{ℕ, ◌*◌, ◌-◌, ◌≤◌, ◌<◌, ◌≡◌, Bool, true, List, [], ◌∷◌, ◌++◌, ◌↔◌, length, get_or, take, drop, Some}
use Rattle.laws.specs.Passing.{how_many}
use Rattle.machine.specs.State.{Counts, slot_count, State, state_of, encode, reset, words_sound}
use Rattle.machine.specs.Step.{step}
use Rattle.machine.specs.Stream.{Bytes, answer_bytes, run_of}
use Rattle.machine.specs.Serve.{served_of}
use Rattle.machine.specs.Views.{View, insertion, access, other, view}
use Rattle.machine.specs.Ledger.{Entry, Ledger, overlap, unlocked, line, Written, name_in, is_named, new_entry}
use Rattle.machine.specs.Ledger.{first_no, questions, Asked, used_address, asked_side, looks_up, found_by, misses}
use Rattle.machine.specs.Ledger.{hits, enters, insertion_questions, Miss, refused, absent, present, miss, serves}
use Rattle.machine.specs.Places.{Place, Reference, displaced_from, reference_told, miss_told, reference_start, reference_words}
use Rattle.machine.specs.Format.{Reading, ReadAs}
use Rattle.machine.specs.Good.{ReferenceGood, GoodWords}
use Rattle.machine.specs.declared.Command.{Command}

-- ---- the ledger beside the unit
-- the unit's answer to a command of a stream with or without the mark
abbrev pub unit_bytes : Bool → State → Command → Bytes
unit_bytes hv u c = answer_bytes (step hv u c).answer

-- the ledger is fed the command, the stream's mark, and the entry that the unit's bytes name as displaced
abbrev pub fed : Bool → Counts → State → Reference → Command → Written
fed hv n u k c = enters hv (slot_count n) k.ledger c (name_in (unit_bytes hv u c))

-- ledger and places after it
abbrev pub fed_next : Bool → Counts → State → Reference → Command → Reference
fed_next hv n u k c = reference_told hv (slot_count n) k c (name_in (unit_bytes hv u c))

unfoldable pub fed_after : Bool → Counts → State → Reference → List Command → Reference
fed_after hv n u k [] = k
fed_after hv n u k (c ∷ cs) = fed_after hv n (step hv u c).state (fed_next hv n u k c) cs

unfoldable pub ledger_bytes : Bool → Counts → State → Reference → List Command → Bytes
ledger_bytes hv n u k [] = []
ledger_bytes hv n u k (c ∷ cs) = (fed hv n u k c).bytes ++ ledger_bytes hv n (step hv u c).state (fed_next hv n u k c) cs

-- ---- one command
-- live: in the ledger's list of the side just before the command
abbrev pub Live : Entry → List Entry → Type 0
Live e m = (i : ℕ) × (i < length m) × (get_or m i e ≡ e)

-- an insertion that neither 1 to 12 nor 16 refuses: s are the places, m was live, e is new, b the unit's answer
pub record InsertionSays (n : ℕ) (s : List Place) (m : List Entry) (e : Entry) (b : Bytes) : Type 0 where
  -- it names a displaced entry just where every slot was taken, none overlapped, and an entry was unlocked
  pub displaced : (get_or b 0 0 ≡ 4) ↔ ((length m ≡ n) × (how_many (overlap e) m ≡ 0) × (1 ≤ how_many unlocked m))
  -- the one named was live and unlocked, and is the one that the places pick
  pub named : get_or b 0 0 ≡ 4 →
      (x : Entry) × (displaced_from s ≡ Some x) × (is_named (name_in b) x ≡ true) × Live x m × (unlocked x ≡ true)
  -- 13 is answered exactly when the side was full, all locked, and none overlapped
  pub refused : (b ≡ line 5 13 0 0 0 0) ↔ ((length m ≡ n) × (how_many unlocked m ≡ 0) × (how_many (overlap e) m ≡ 0))

-- an access that looks up gets what the one live entry says, and a miss exactly when there is none
pub record AccessSays (l : Ledger) (a : Asked) (b : Bytes) : Type 0 where
  pub one : how_many (found_by l a) (l.entries (asked_side a)) ≤ 1
  pub hit : (e : Entry) → Live e (l.entries (asked_side a)) → found_by l a e ≡ true → b ≡ (hits l a e).bytes
  pub missed : (b ≡ (misses l a).bytes) ↔ (how_many (found_by l a) (l.entries (asked_side a)) ≡ 0)

-- of a command that none of 5 to 12, 15 and 16 refused
abbrev pub SaysOf : Counts → Reference → View → Bytes → Type 0
SaysOf n k (insertion strand side flags word) b =
    InsertionSays (slot_count n side) (k.places side) (k.ledger.entries side) (new_entry k.ledger strand side flags word) b
SaysOf n k (access strand kind selector size address) b =
    let a : Asked = record { strand = strand; kind = kind; selector = selector; size = size; used = used_address k.ledger strand address.0 } in
    looks_up k.ledger a ≡ true → AccessSays k.ledger a b
SaysOf n k other b = Unit {0}

abbrev pub Says : Bool → Counts → Reference → Command → Bytes → Type 0
Says hv n k c b = first_no (questions hv k.ledger c) ≡ 0 → SaysOf n k (view c) b

-- before and after each command the state has the words of ledger and places; its 24 bytes are the ledger's; what is said of insertions and accesses holds
abbrev pub CommandsSay : Bool → Counts → State → Reference → List Command → Type 0
CommandsSay hv n u k [] = encode u ≡ reference_words k
CommandsSay hv n u k (c ∷ cs) =
    (encode u ≡ reference_words k) × ((fed hv n u k c).bytes ≡ unit_bytes hv u c) × Says hv n k c (unit_bytes hv u c)
    × CommandsSay hv n (step hv u c).state (fed_next hv n u k c) cs

-- ---- one run
-- of bytes that are read as t
pub record RunSays (hv : Bool) (n : Counts) (words : List ℕ) (k : Reference) (input output : Bytes) (t : Reading) : Type 0 where
  -- each run finds its words sound
  pub sound : (run_of hv n words input output).stop ≡ 1 → ⊥
  pub stop : (run_of hv n words input output).stop ≡ t.stop
  pub taken : (run_of hv n words input output).taken ≡ length input - length t.rest
  pub answered : (run_of hv n words input output).answered ≡ length t.commands
  -- the answers stand in front and are the ledger's; behind them the output is as it was lent
  pub front : take (length t.commands * 24) (run_of hv n words input output).output ≡ ledger_bytes hv n (state_of n words) k t.commands
  pub past : drop (length t.commands * 24) (run_of hv n words input output).output ≡ drop (length t.commands * 24) output
  pub commands : CommandsSay hv n (state_of n words) k t.commands

-- ---- one served miss
-- the unit's answer, from any words
abbrev pub miss_bytes : Counts → List ℕ → ℕ → ℕ → Bytes → Bytes → Bytes
miss_bytes n words strand side of_zero of_other = answer_bytes (served_of n words strand side of_zero of_other).answer

-- of a miss whose entry agrees and that 11 and 12 do not refuse, what is said of insertions is said
abbrev pub MissSays : Counts → Reference → ℕ → ℕ → Miss → Bytes → Type 0
MissSays n k strand side (refused number) b = Unit {0}
MissSays n k strand side absent b = Unit {0}
MissSays n k strand side (present word) b =
    first_no (insertion_questions k.ledger strand side word) ≡ 0
    → InsertionSays (slot_count n side) (k.places side) (k.ledger.entries side) (new_entry k.ledger strand side 0 word) b

-- its 24 bytes are the ledger's, which is told the entry that they name as displaced
pub record ServeSays (n : Counts) (k : Reference) (strand side : ℕ) (m : Miss) (b : Bytes) : Type 0 where
  pub bytes : (serves (slot_count n) k.ledger strand side m (name_in b)).bytes ≡ b
  pub says : MissSays n k strand side m b

-- ---- every list
-- what a caller does: a run, with the stream's mark, its bytes and the output that it lends; or the serving of a miss, of a strand and a side, with its two
-- tables
pub data Event : Type 0 where
  run : Bool → Bytes → Bytes → Event
  serve : ℕ → ℕ → Bytes → Bytes → Event

-- one event: what is said of it, and then of the words and the reference that it leaves
abbrev pub EventSays : Counts → List ℕ → Reference → Event → (List ℕ → Reference → Type 0) → Type 0
EventSays n words k (run hv input output) Then =
    (t : Reading) → ReadAs input (length output) t
    → RunSays hv n words k input output t × Then (run_of hv n words input output).words (fed_after hv n (state_of n words) k t.commands)
EventSays n words k (serve strand side of_zero of_other) Then =
    let b : Bytes = miss_bytes n words strand side of_zero of_other in
    let m : Miss = miss k.ledger strand side of_zero of_other in
    ServeSays n k strand side m b × Then (served_of n words strand side of_zero of_other).words (miss_told (slot_count n) k strand side m (name_in b))

-- each on the words that the last one left, which are those of the reference
abbrev pub EventsSay : Counts → List ℕ → Reference → List Event → Type 0
EventsSay n words k [] = words ≡ reference_words k
EventsSay n words k (e ∷ es) = (words ≡ reference_words k) × EventSays n words k e (λ w l. EventsSay n w l es)

unfoldable pub Demand3 : Counts → Type 0
Demand3 n = (es : List Event) → EventsSay n (encode (reset n)) (reference_start (slot_count n)) es

-- ---- from any state
pub record Described (n : Counts) : Type 0 where
  -- number 1 asks for what the second text of it says, and for nothing else
  pub sound : (words : List ℕ) → (words_sound n words ≡ true) ↔ GoodWords (slot_count n) words
  -- and from there every list is answered as from reset
  pub lists : (k : Reference) → ReferenceGood (slot_count n) k → (es : List Event) → EventsSay n (reference_words k) k es
