-- The ledger with its places by itself: fed the bytes of a run or the tables of a miss, and nothing of the unit, it tells every byte of the answers, every
-- word of the state and the numbers returned. What each call is held to.
-- Assumes nothing.
use Rattle.std.specs.Prelude.{ℕ, ◌+◌, ◌*◌, ◌-◌, ◌≤◌, ◌≡◌, Bool, List, [], ◌∷◌, ◌++◌, length, drop, Some, None, Option}
use Rattle.machine.specs.State.{Counts, reset_of, reset_number}
use Rattle.machine.specs.Stream.{Bytes, answer_bytes, Outcome, run_of}
use Rattle.machine.specs.Serve.{part_of, Served, served_of}
use Rattle.machine.specs.Views.{View, insertion, access, other, view}
use Rattle.machine.specs.Ledger.{Entry, Ledger, one_if, Name, line, first_no, enters, set_of, table_for, entry_place, miss_questions, miss, serves}
use Rattle.machine.specs.Places.{Reference, displaced_from, reference_told, miss_told, reference_start, reference_words}
use Rattle.machine.specs.Format.{Reading, ReadAs}
use Rattle.machine.specs.Demand3.{Event, run, serve}
use Rattle.machine.specs.Good.{ReferenceGood, GoodWords}
use Rattle.machine.specs.declared.Command.{Command}
use Rattle.machine.specs.declared.Report.{Report}
use Rattle.machine.specs.declared.Part.{Part}

-- ---- commands. n is the slot count of each side, hv the stream's mark
-- the name of an entry; where none is displaced, no name is read
abbrev pub name_of : Option Entry → Name
name_of None = record { partition = 0; real = 0; place = 0; word = 0 }
name_of (Some e) = record { partition = e.partition; real = one_if e.real; place = e.page + e.context; word = e.word }

-- whom a command displaces: an insertion, the one that the places pick
abbrev pub displaced_by : Reference → View → Option Entry
displaced_by k (insertion strand side flags word) = displaced_from (k.places side)
displaced_by k (access strand kind selector size address) = None
displaced_by k other = None

abbrev pub displaced_name : Reference → Command → Name
displaced_name k c = name_of (displaced_by k (view c))

abbrev pub reference_next : Bool → (ℕ → ℕ) → Reference → Command → Reference
reference_next hv n k c = reference_told hv n k c (displaced_name k c)

unfoldable pub reference_after : Bool → (ℕ → ℕ) → Reference → List Command → Reference
reference_after hv n k [] = k
reference_after hv n k (c ∷ cs) = reference_after hv n (reference_next hv n k c) cs

unfoldable pub reference_bytes : Bool → (ℕ → ℕ) → Reference → List Command → Bytes
reference_bytes hv n k [] = []
reference_bytes hv n k (c ∷ cs) = (enters hv n k.ledger c (displaced_name k c)).bytes ++ reference_bytes hv n (reference_next hv n k c) cs

-- ---- a run
-- of bytes that are read as t: what it leaves in the words and bytes lent, and what it returns
pub record Leaves (hv : Bool) (n : ℕ → ℕ) (k : Reference) (input output : Bytes) (t : Reading) (left : List ℕ) (written : Bytes) (r : Report) : Type 0 where
  pub words : left ≡ reference_words (reference_after hv n k t.commands)
  -- behind the answers the output is as it was lent
  pub bytes : written ≡ reference_bytes hv n k t.commands ++ drop (length t.commands * 24) output
  pub answered : r.answered ≡ length t.commands
  pub taken : r.taken ≡ length input - length t.rest
  pub stop : r.stop ≡ t.stop

-- a call on any words, with input and output lent
pub record RunTold (hv : Bool) (n : ℕ → ℕ) (words : List ℕ) (input output : Bytes) (left : List ℕ) (written : Bytes) (r : Report) : Type 0 where
  -- number 1: words that are not sound stay, and so does the output
  pub unsound : (GoodWords n words → ⊥) → (left ≡ words) × (written ≡ output) × (r.answered ≡ 0) × (r.taken ≡ 0) × (r.stop ≡ 1)
  pub sound : (k : Reference) → ReferenceGood n k → words ≡ reference_words k
      → (t : Reading) → ReadAs input (length output) t → Leaves hv n k input output t left written r

-- ---- a miss
-- who makes way for the entry that serves it, if one does
abbrev pub miss_name : Reference → ℕ → Name
miss_name k side = name_of (displaced_from (k.places side))

abbrev pub miss_next : (ℕ → ℕ) → Reference → ℕ → ℕ → Bytes → Bytes → Reference
miss_next n k strand side of_zero of_other = miss_told n k strand side (miss k.ledger strand side of_zero of_other) (miss_name k side)

abbrev pub reference_serves : (ℕ → ℕ) → Reference → ℕ → ℕ → Bytes → Bytes → Bytes
reference_serves n k strand side of_zero of_other =
    (serves n k.ledger strand side (miss k.ledger strand side of_zero of_other) (miss_name k side)).bytes

-- what serving leaves in the words lent, and its answer
pub record ServeLeaves (n : ℕ → ℕ) (k : Reference) (strand side : ℕ) (of_zero of_other : Bytes) (left : List ℕ) (b : Bytes) : Type 0 where
  pub words : left ≡ reference_words (miss_next n k strand side of_zero of_other)
  pub bytes : b ≡ reference_serves n k strand side of_zero of_other

-- a call on any words
pub record ServeTold (n : ℕ → ℕ) (words : List ℕ) (strand side : ℕ) (of_zero of_other : Bytes) (left : List ℕ) (b : Bytes) : Type 0 where
  pub unsound : (GoodWords n words → ⊥) → (left ≡ words) × (b ≡ line 5 1 0 0 0 0)
  pub sound : (k : Reference) → ReferenceGood n k → words ≡ reference_words k → ServeLeaves n k strand side of_zero of_other left b

-- the part handed back: 16 bytes of one of the tables, within it; or a number and nothing
pub record Hands (l : Ledger) (strand side : ℕ) (of_zero of_other : Bytes) (p : Part) : Type 0 where
  pub number : p.number ≡ first_no (miss_questions l strand side of_zero of_other)
  pub refused : (p.number ≡ 0 → ⊥) → (p.other ≡ 0) × (p.start ≡ 0) × (p.length ≡ 0)
  pub handed : p.number ≡ 0 → (p.other ≡ set_of l strand side) × (p.start ≡ entry_place l strand side) × (p.length ≡ 16)
  pub within : p.number ≡ 0 → p.start + p.length ≤ length (table_for l strand side of_zero of_other)

pub record PartTold (n : ℕ → ℕ) (words : List ℕ) (strand side : ℕ) (of_zero of_other : Bytes) (p : Part) : Type 0 where
  pub unsound : (GoodWords n words → ⊥) → p ≡ record { number = 1; other = 0; start = 0; length = 0 }
  pub sound : (k : Reference) → ReferenceGood n k → words ≡ reference_words k → Hands k.ledger strand side of_zero of_other p

-- ---- reset
-- of any words: those of another length stay, and get 1
pub record ResetTold (n : ℕ → ℕ) (words left : List ℕ) (number : ℕ) : Type 0 where
  pub reset : length words ≡ length (reference_words (reference_start n)) → (left ≡ reference_words (reference_start n)) × (number ≡ 0)
  pub other : (length words ≡ length (reference_words (reference_start n)) → ⊥) → (left ≡ words) × (number ≡ 1)

-- ---- the unit, by its own counts of slots and by the reference's
abbrev pub returned : Outcome → Report
returned o = record { answered = o.answered; taken = o.taken; stop = o.stop }

-- one event, and then what is told of the reference that it leaves
abbrev pub EventTold : Counts → (ℕ → ℕ) → Reference → Event → (Reference → Type 0) → Type 0
EventTold c n k (run hv input output) Then =
    let o : Outcome = run_of hv c (reference_words k) input output in
    (t : Reading) → ReadAs input (length output) t
    → Leaves hv n k input output t o.words o.output (returned o) × Then (reference_after hv n k t.commands)
EventTold c n k (serve strand side of_zero of_other) Then =
    let o : Served = served_of c (reference_words k) strand side of_zero of_other in
    ServeLeaves n k strand side of_zero of_other o.words (answer_bytes o.answer) × Then (miss_next n k strand side of_zero of_other)

-- one after the other, each on the words that the last one left
abbrev pub EventsTold : Counts → (ℕ → ℕ) → Reference → List Event → Type 0
EventsTold c n k [] = Unit {0}
EventsTold c n k (e ∷ es) = EventTold c n k e (λ l. EventsTold c n l es)

pub record Told (c : Counts) (n : ℕ → ℕ) : Type 0 where
  pub reset : (words : List ℕ) → ResetTold n words (reset_of c words) (reset_number c words)
  pub run : (hv : Bool) (words : List ℕ) (input output : Bytes) →
      let o : Outcome = run_of hv c words input output in
      RunTold hv n words input output o.words o.output (returned o)
  pub serve : (words : List ℕ) (strand side : ℕ) (of_zero of_other : Bytes) →
      let o : Served = served_of c words strand side of_zero of_other in
      ServeTold n words strand side of_zero of_other o.words (answer_bytes o.answer)
  pub part : (words : List ℕ) (strand side : ℕ) (of_zero of_other : Bytes)
      → PartTold n words strand side of_zero of_other (part_of c words strand side of_zero of_other)
  -- reset is sound, and so is what a command leaves, and a miss
  pub start : ReferenceGood n (reference_start n)
  pub kept : (hv : Bool) (k : Reference) (c : Command) → ReferenceGood n k → ReferenceGood n (reference_next hv n k c)
  pub missed : (k : Reference) (strand side : ℕ) (of_zero of_other : Bytes) → ReferenceGood n k
      → ReferenceGood n (miss_next n k strand side of_zero of_other)
  -- so every list of runs and served misses, from reset and from every sound state
  pub lists : (k : Reference) → ReferenceGood n k → (es : List Event) → EventsTold c n k es
