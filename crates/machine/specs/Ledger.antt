-- Document 01, "The ledger": the plain machine of demand 3, a text of its own, with the misses that it serves (document 02, U1). With the unit it
-- shares the type of a decoded command and the kit's library (lists, booleans, comparisons); its own list functions are in laws/specs/Passing.
-- Assumes nothing.
use Rattle.std.specs.Prelude.{ℕ, zero, suc, ◌+◌, ◌*◌, ◌-◌, ◌/◌, ◌%◌, ◌^◌, Bool, true, false, not, cond, ◌&&◌, ◌||◌, List, [], ◌∷◌, ◌++◌, eqb, leb, ltb, length, get_or, take, drop, Some, None, Option}
use Rattle.std.specs.Bool.{beq}
use Rattle.laws.specs.Passing.{how_many, none_passes, without, find}
use Rattle.machine.specs.declared.Command.{Command}
use Rattle.machine.specs.declared.Command.TheVariants as command

-- an entry, in the order of "Insertion and removal"; `real` is document 01's realness, and a real one has context 0
pub record Entry : Type 0 where
  pub partition : ℕ
  pub real : Bool
  pub context : ℕ
  pub page : ℕ
  pub locked : Bool
  pub word : ℕ

-- registers by strand and number; entries by side, the newest last; lookups by strand and side, the newest first, each with whether it missed. All since
-- reset stay (document 02, U5)
pub record Ledger : Type 0 where
  pub registers : ℕ → ℕ → ℕ
  pub entries : ℕ → List Entry
  pub lookups : ℕ → ℕ → List Bool

-- as reset leaves it: mode 2, all other registers 0, no entries, no lookups
abbrev pub start : Ledger
start = record { registers = λ strand number. cond (eqb number 3) 2 0; entries = λ side. []; lookups = λ strand side. [] }

abbrev pub writes : Ledger → ℕ → ℕ → ℕ → Ledger
writes l strand number value = record {
  registers = λ s r. cond (eqb s strand && eqb r number) value (l.registers s r);
  entries = l.entries;
  lookups = l.lookups;
}

abbrev pub with_entries : Ledger → ℕ → List Entry → Ledger
with_entries l side m = record { registers = l.registers; entries = λ k. cond (eqb k side) m (l.entries k); lookups = l.lookups }

abbrev pub with_lookup : Ledger → ℕ → ℕ → Bool → Ledger
with_lookup l strand side missed = record {
  registers = l.registers;
  entries = l.entries;
  lookups = λ s d. cond (eqb s strand && eqb d side) (missed ∷ l.lookups s d) (l.lookups s d);
}

-- ---- pages and words
-- bytes of a page by size code
abbrev pub code_bytes : ℕ → ℕ
code_bytes code = cond (eqb code 0) 0x2000 (cond (eqb code 1) 0x1_0000 (cond (eqb code 3) 0x40_0000 0x1000_0000))

abbrev pub page_bytes : ℕ → ℕ
page_bytes word = code_bytes (word % 16)

abbrev pub code_listed : ℕ → Bool
code_listed code = eqb code 0 || (eqb code 1 || (eqb code 3 || eqb code 5))

-- bit k of a word
abbrev pub bit : ℕ → ℕ → ℕ
bit k word = word / 2 ^ k % 2

-- the address of a virtual or real page, in range: 64 bits, and not in the hole
abbrev pub address_good : ℕ → Bool
address_good a = ltb a (2 ^ 64) && not (leb 0x8000_0000_0000 a && ltb a 0xFFFF_8000_0000_0000)

-- number 12: bit 63 is set, the size code has a page, and bits 40 to 55 are clear
abbrev pub word_good : ℕ → Bool
word_good word = (leb (2 ^ 63) word && ltb word (2 ^ 64)) && (code_listed (word % 16) && eqb (word / 2 ^ 40 % 2 ^ 16) 0)

-- the page holds the address
abbrev pub reaches : Entry → ℕ → Bool
reaches e a = leb e.page a && ltb a (e.page + page_bytes e.word)

-- overlap: the same partition, real bit and context, and the start of one in the page of the other
unfoldable pub overlap : Entry → Entry → Bool
overlap e x =
    (eqb e.partition x.partition && (beq e.real x.real && eqb e.context x.context))
    && (reaches e x.page || reaches x e.page)

abbrev pub unlocked : Entry → Bool
unlocked e = not e.locked

-- ---- registers
abbrev pub register_known : ℕ → Bool
register_known r = leb r 5 || (leb 8 r && leb r 25)

abbrev pub register_writable : ℕ → Bool
register_writable r = leb r 5 || (leb 8 r && leb r 21)

abbrev pub value_good : ℕ → ℕ → Bool
value_good r v =
    cond (eqb r 0) (leb v 7)
    (cond (eqb r 1 || eqb r 2) (leb v 8191)
    (cond (eqb r 3) (leb v 2)
    (cond (eqb r 4) (leb v 3)
    (cond (eqb r 5) (leb v 1)
    (cond (leb 8 r && leb r 15) (eqb (v / 16 % 512) 0)
    (cond (leb 16 r && leb r 19) (eqb v (v % 8 + v / 256 % 8 * 256) && (code_listed (v % 8) && code_listed (v / 256 % 8)))
    true))))))

-- the context of a selector: 0 asks for the primary one, 1 for the secondary one; the nucleus has 0
abbrev pub context_picked : Ledger → ℕ → ℕ → ℕ
context_picked l strand selector = cond (eqb selector 0) (l.registers strand 1) (cond (eqb selector 1) (l.registers strand 2) 0)

abbrev pub tag_of : Ledger → ℕ → ℕ → ℕ
tag_of l strand side = l.registers strand (20 + side)

-- ---- answers
-- the low k bytes of a value, big-endian
unfoldable pub big_endian : ℕ → ℕ → List ℕ
big_endian zero v = []
big_endian (suc k) v = big_endian k (v / 256) ++ (v % 256 ∷ [])

-- an answer of "The stream": four bytes that say what it is, four that are zero, then two values
unfoldable pub line : ℕ → ℕ → ℕ → ℕ → ℕ → ℕ → List ℕ
line kind a b c v w = kind ∷ a ∷ b ∷ c ∷ 0 ∷ 0 ∷ 0 ∷ 0 ∷ (big_endian 8 v ++ big_endian 8 w)

pub record Written : Type 0 where
  pub ledger : Ledger
  pub bytes : List ℕ

abbrev pub answers : Ledger → List ℕ → Written
answers l b = record { ledger = l; bytes = b }

-- ---- the displaced entry, as the unit's answer names it
pub record Name : Type 0 where
  pub partition : ℕ
  pub real : ℕ
  pub place : ℕ
  pub word : ℕ

-- 1 for yes, 0 for no
abbrev pub one_if : Bool → ℕ
one_if b = cond b 1 0

-- a value of bytes, big-endian
unfoldable pub value_from : ℕ → List ℕ → ℕ
value_from high [] = high
value_from high (b ∷ r) = value_from (high * 256 + b) r

-- what an answer of kind 4 says of the entry: bytes b and c, then its two values
unfoldable pub name_in : List ℕ → Name
name_in answer = record {
  partition = get_or answer 2 0;
  real = get_or answer 3 0;
  place = value_from 0 (take 8 (drop 8 answer));
  word = value_from 0 (drop 16 answer);
}

unfoldable pub is_named : Name → Entry → Bool
is_named d e =
    eqb d.partition e.partition
    && (eqb d.real (one_if e.real) && (eqb d.place (e.page + e.context) && eqb d.word e.word))

-- ---- questions 5 to 13, 15 and 16, by the registers and lists of the ledger and the stream's mark
-- the entry of an insertion: by the strand's partition and tag access; the word's size code says where the page starts
unfoldable pub new_entry : Ledger → ℕ → ℕ → ℕ → ℕ → Entry
new_entry l strand side flags word =
    let tag : ℕ = tag_of l strand side in
    let address : ℕ = tag - tag % 8192 in
    record {
      partition = l.registers strand 0;
      real = eqb (flags % 2) 1;
      context = cond (eqb (flags % 2) 1) 0 (tag % 8192);
      page = address - address % page_bytes word;
      locked = leb 2 flags;
      word = word;
    }

-- the numbers that a list of questions may answer, each with whether it is answered well; 0 where all are
unfoldable pub first_no : List (ℕ × Bool) → ℕ
first_no [] = 0
first_no (q ∷ qs) = cond q.1 (first_no qs) q.0

abbrev pub selector_good : ℕ → ℕ → Bool
selector_good side selector = leb selector 2 && not (eqb selector 1 && eqb side 0)

-- 11 and 12, the last two of every insertion
unfoldable pub insertion_questions : Ledger → ℕ → ℕ → ℕ → List (ℕ × Bool)
insertion_questions l strand side word = (11, address_good (tag_of l strand side - tag_of l strand side % 8192)) ∷ (12, word_good word) ∷ []

-- the lookups that the miss rate is taken of: the last 1,024
abbrev pub recent : Ledger → ℕ → ℕ → List Bool
recent l strand side = take 1024 (l.lookups strand side)

-- 16, of a strand (document 02, U6): not in mode 0; in mode 1 what a guest may do; else all
abbrev pub mode_allows : Ledger → ℕ → Bool → Bool
mode_allows l strand guest = cond (eqb (l.registers strand 3) 0) false (cond (eqb (l.registers strand 3) 1) guest true)

-- both contexts, the mask, and 8 to 21
abbrev pub guest_writes : ℕ → Bool
guest_writes r = (eqb r 1 || eqb r 2) || (eqb r 5 || (leb 8 r && leb r 21))

-- 5 to 12, 15 and 16. hv is the stream's mark: its commands are the hypervisor's; only an invalidation goes by it
unfoldable pub questions : Bool → Ledger → Command → List (ℕ × Bool)
questions hv l (command.Write strand number value) =
    (5, leb strand 3) ∷ (9, register_writable number) ∷ (10, value_good number value) ∷ (16, mode_allows l strand (guest_writes number)) ∷ []
questions hv l (command.Insert strand side flags word) =
    (5, leb strand 3) ∷ (6, leb side 1) ∷ (8, leb flags 3) ∷ (16, mode_allows l strand (eqb flags 0)) ∷ insertion_questions l strand side word
questions hv l (command.DemapPage strand side selector flags address) =
    (5, leb strand 3) ∷ (6, leb side 1) ∷ (7, selector_good side selector) ∷ (8, leb flags 1)
    ∷ (16, mode_allows l strand true) ∷ (11, address_good address.0) ∷ []
questions hv l (command.DemapContext strand side selector) =
    (5, leb strand 3) ∷ (6, leb side 1) ∷ (7, selector_good side selector) ∷ (16, mode_allows l strand true) ∷ []
questions hv l (command.DemapAll strand side) = (5, leb strand 3) ∷ (6, leb side 1) ∷ (16, mode_allows l strand false) ∷ []
questions hv l (command.Invalidate side) = (6, leb side 1) ∷ (16, hv) ∷ []
questions hv l (command.Access strand kind selector size address) =
    (5, leb strand 3) ∷ (6, leb kind 4)
    ∷ (7, selector_good (cond (eqb kind 0) 0 1) selector && not (eqb selector 2 && (eqb (l.registers strand 3) 0 && eqb kind 0)))
    ∷ (8, leb size 3 && (not (eqb kind 0) || eqb size 2)) ∷ []
questions hv l (command.Read strand number) = (5, leb strand 3) ∷ (9, register_known number) ∷ []
questions hv l (command.Pointers strand side) = (5, leb strand 3) ∷ (6, leb side 1) ∷ (16, mode_allows l strand true) ∷ []
questions hv l (command.Rate strand side) =
    (5, leb strand 3) ∷ (6, leb side 1) ∷ (16, mode_allows l strand true) ∷ (15, leb 1 (length (recent l strand side))) ∷ []

-- 13: as many entries as slots, none of them unlocked, and none that the new one overlaps
abbrev pub lacks_slot : ℕ → Entry → List Entry → Bool
lacks_slot n e m = eqb (length m) n && (none_passes unlocked m && none_passes (overlap e) m)

-- ---- insertion, demaps and invalidation
-- the entry named goes, if it is live and unlocked; with no such entry there is no answer
abbrev pub displaces : Ledger → ℕ → Entry → Name → Option Entry → Written
displaces l side e d None = answers l []
displaces l side e d (Some x) =
    answers (with_entries l side (without (is_named d) (l.entries side) ++ (e ∷ [])))
    (line 4 0 x.partition (one_if x.real) (x.page + x.context) x.word)

-- an insertion: 13; or a full side without an overlapped entry, where the one named goes; else those overlapped go. The new entry comes last
unfoldable pub inserts : ℕ → Ledger → ℕ → Entry → Name → Written
inserts n l side e d =
    let m : List Entry = l.entries side in
    cond (lacks_slot n e m) (answers l (line 5 13 0 0 0 0))
    (cond (eqb (length m) n && none_passes (overlap e) m)
    (displaces l side e d (find (λ x. is_named d x && unlocked x) m))
    (answers (with_entries l side (without (overlap e) m ++ (e ∷ []))) (line 0 0 0 0 0 0)))

-- a demap answers how many entries it takes
abbrev pub demaps : Ledger → ℕ → (Entry → Bool) → Written
demaps l side p = answers (with_entries l side (without p (l.entries side))) (line 0 0 0 0 (how_many p (l.entries side)) 0)

-- of a partition, real or virtual as asked, and if virtual of a context
unfoldable pub is_of : ℕ → Bool → ℕ → Entry → Bool
is_of partition real context e = eqb e.partition partition && (beq e.real real && (real || eqb e.context context))

-- and its page holds the address
unfoldable pub is_at : ℕ → Bool → ℕ → ℕ → Entry → Bool
is_at partition real context address e = is_of partition real context e && reaches e address

unfoldable pub in_context : ℕ → ℕ → Entry → Bool
in_context partition context e = eqb e.partition partition && (not e.real && eqb e.context context)

unfoldable pub in_partition : ℕ → Entry → Bool
in_partition partition e = eqb e.partition partition && unlocked e

-- ---- access
-- what an access asks for, and the address used
pub record Asked : Type 0 where
  pub strand : ℕ
  pub kind : ℕ
  pub selector : ℕ
  pub size : ℕ
  pub used : ℕ

-- the address used: with the mask on, only mode 2 keeps more than the low 32 bits
abbrev pub used_address : Ledger → ℕ → ℕ → ℕ
used_address l strand address = cond (eqb (l.registers strand 5) 1 && not (eqb (l.registers strand 3) 2)) (address % 0x1_0000_0000) address

abbrev pub asked_side : Asked → ℕ
asked_side a = cond (eqb a.kind 0) 0 1

abbrev pub translation_on : Ledger → Asked → Bool
translation_on l a = eqb (l.registers a.strand 4 / 2 ^ asked_side a % 2) 1

-- the two registers that every trap sets: fault address, and number × 256 + type
abbrev pub faults : Ledger → Asked → ℕ → ℕ → Ledger
faults l a number type = writes (writes l a.strand (22 + asked_side a) a.used) a.strand (24 + asked_side a) (number * 256 + type)

-- a trap that leaves tag access
abbrev pub plain_trap : Ledger → Asked → ℕ → Written
plain_trap l a number = answers (faults l a number 0) (line 2 number 0 0 a.used (tag_of l a.strand (asked_side a)))

-- a trap that writes tag access: the address used, and a context
unfoldable pub trap_with : Ledger → Asked → ℕ → ℕ → ℕ → Written
trap_with l a context number type =
    let tag : ℕ = a.used - a.used % 8192 + context in
    answers (writes (faults l a number type) a.strand (20 + asked_side a) tag) (line 2 number type 0 a.used tag)

-- of most the context is the one picked, or 0 while translation is off
abbrev pub tagged_trap : Ledger → Asked → ℕ → ℕ → Written
tagged_trap l a = trap_with l a (cond (translation_on l a) (context_picked l a.strand a.selector) 0)

-- the steps in order: the first whose condition holds
unfoldable pub first_fit : List (Bool × Written) → Written → Written
first_fit [] last = last
first_fit (s ∷ ss) last = cond s.0 s.1 (first_fit ss last)

-- steps 1 to 4: whether the access ends before the lookup. In mode 2 I/O space takes no nonfaulting load and no atomic, by a trap that has context 0
-- whatever the registers say (document 02, U4); a bypass has 15 where a hit has a size code (U3)
unfoldable pub early_steps : Ledger → Asked → List (Bool × Written)
early_steps l a =
    let mode : ℕ = l.registers a.strand 3 in
    let io : Bool = eqb (bit 39 a.used) 1 in
    (not (eqb (a.used % 2 ^ a.size) 0), plain_trap l a 0x34)
    ∷ (eqb mode 0 && (eqb (asked_side a) 1 && eqb a.selector 2), plain_trap l a 0x37)
    ∷ (eqb mode 2 && (io && eqb a.kind 4), trap_with l a 0 0x30 0x02)
    ∷ (eqb mode 2 && (io && eqb a.kind 3), trap_with l a 0 0x30 0x04)
    ∷ (eqb mode 2, answers l (line 1 (cond io 2 1) 0 15 (a.used % 0x100_0000_0000) 0))
    ∷ (not (address_good a.used), tagged_trap l a (cond (eqb a.kind 0) 0x08 0x30) 0x20)
    ∷ []

-- whether an access comes to its lookup: none of them ends it
abbrev pub looks_up : Ledger → Asked → Bool
looks_up l a = none_passes (λ s. s.0) (early_steps l a)

-- step 5: the live entries that the lookup may find
abbrev pub found_by : Ledger → Asked → Entry → Bool
found_by l a = is_at (l.registers a.strand 0) (not (translation_on l a)) (context_picked l a.strand a.selector) a.used

-- step 5 without an entry: a fetch has 0x64, or 0x3E with translation off; data have 0x68 or 0x3F
unfoldable pub misses : Ledger → Asked → Written
misses l a =
    tagged_trap l a
    (cond (eqb a.kind 0) (cond (translation_on l a) 0x64 0x3E) (cond (translation_on l a) 0x68 0x3F))
    0

-- step 6: the fault types that a word earns an access, in one sum
abbrev pub faults_of : ℕ → ℕ → ℕ → ℕ
faults_of mode kind word =
    cond (eqb mode 0) (bit 8 word) 0
    + cond (eqb kind 4) (2 * bit 11 word) 0
    + cond (eqb kind 3) (4 * (1 - bit 10 word)) 0
    + cond (eqb kind 4) 0 (0x10 * bit 62 word)

-- steps 6 to 8 on the entry found; a physical address comes with the entry's size code (document 02, U3)
unfoldable pub hits : Ledger → Asked → Entry → Written
hits l a e =
    let word : ℕ = e.word in
    let address : ℕ = word / 2 ^ 13 % 2 ^ 43 * 2 ^ 13 in
    let type : ℕ = faults_of (l.registers a.strand 3) a.kind word in
    first_fit
    ((not (eqb type 0), tagged_trap l a (cond (eqb a.kind 0) 0x08 0x30) type)
    ∷ (eqb (bit 6 word) 0 && (eqb a.kind 2 || eqb a.kind 3), tagged_trap l a 0x6C 0)
    ∷ [])
    (answers l
    (line 1 (bit 10 word + 2 * bit 11 word + 4 * bit 12 word) 0 (word % 16) (address - address % page_bytes word + a.used % page_bytes word) 0))

-- the lookup is put down with its outcome
abbrev pub puts : Asked → Bool → Written → Written
puts a missed w = answers (with_lookup w.ledger a.strand (asked_side a) missed) w.bytes

abbrev pub looked_up : Ledger → Asked → Option Entry → Written
looked_up l a None = puts a true (misses l a)
looked_up l a (Some e) = puts a false (hits l a e)

-- an access: steps 1 to 4 in order; if none ends it, steps 5 to 8 on the list of its side
unfoldable pub accesses : Ledger → Asked → Written
accesses l a = first_fit (early_steps l a) (looked_up l a (find (found_by l a) (l.entries (asked_side a))))

-- ---- pointers
-- "Pointers": the base from bit 13 + N up, and 16 bytes for each page, by the low 9 + N bits of the page's number
unfoldable pub pointer_of : ℕ → ℕ → ℕ → ℕ
pointer_of base code address = base - base % 2 ^ (13 + base % 16) + address / code_bytes code % 2 ^ (9 + base % 16) * 16

-- whether the context in tag access is 0 says by which registers: 0 where it is, else 1
abbrev pub set_of : Ledger → ℕ → ℕ → ℕ
set_of l strand side = cond (eqb (tag_of l strand side % 8192) 0) 0 1

-- the base of ps0 (k 0) or ps1 (k 1), and the configuration
abbrev pub base_of : Ledger → ℕ → ℕ → ℕ → ℕ
base_of l strand side k = l.registers strand (8 + 4 * side + 2 * set_of l strand side + k)

abbrev pub configuration_of : Ledger → ℕ → ℕ → ℕ
configuration_of l strand side = l.registers strand (16 + 2 * side + set_of l strand side)

-- both pointers of a side
unfoldable pub pointers : Ledger → ℕ → ℕ → Written
pointers l strand side =
    let tag : ℕ = tag_of l strand side in
    let configuration : ℕ = configuration_of l strand side in
    answers l (line 3 0 0 0 (pointer_of (base_of l strand side 0) (configuration % 8) (tag - tag % 8192))
    (pointer_of (base_of l strand side 1) (configuration / 256 % 8) (tag - tag % 8192)))

-- ---- the miss rate
-- of every thousand lookups so many that missed; what is left of the last one is dropped
unfoldable pub thousandths : List Bool → ℕ
thousandths m = 1000 * how_many (λ missed. missed) m / length m

-- ---- one command: what the ledger does that no question refused. n is the slot count of each side; d the entry that the unit's answer names
unfoldable pub does : (ℕ → ℕ) → Ledger → Command → Name → Written
does n l (command.Write strand number value) d = answers (writes l strand number value) (line 0 0 0 0 0 0)
does n l (command.Insert strand side flags word) d = inserts (n side) l side (new_entry l strand side flags word) d
does n l (command.DemapPage strand side selector flags address) d =
    demaps l side (is_at (l.registers strand 0) (eqb flags 1) (context_picked l strand selector) address.0)
does n l (command.DemapContext strand side selector) d = demaps l side (in_context (l.registers strand 0) (context_picked l strand selector))
does n l (command.DemapAll strand side) d = demaps l side (in_partition (l.registers strand 0))
does n l (command.Invalidate side) d = answers (with_entries l side []) (line 0 0 0 0 0 0)
does n l (command.Access strand kind selector size address) d =
    accesses l (record { strand = strand; kind = kind; selector = selector; size = size; used = used_address l strand address.0 })
does n l (command.Read strand number) d = answers l (line 3 0 0 0 (l.registers strand number) 0)
does n l (command.Pointers strand side) d = pointers l strand side
does n l (command.Rate strand side) d = answers l (line 3 0 0 0 (thousandths (recent l strand side)) 0)

-- a command, by the first question that is answered no; if there is one, the ledger stays
unfoldable pub enters : Bool → (ℕ → ℕ) → Ledger → Command → Name → Written
enters hv n l c d =
    let number : ℕ = first_no (questions hv l c) in
    cond (eqb number 0) (does n l c d) (answers l (line 5 number 0 0 0 0))

-- ---- a miss, served from two lent tables: of context zero, and of the others (document 02, U1)
abbrev pub table_for : Ledger → ℕ → ℕ → List ℕ → List ℕ → List ℕ
table_for l strand side of_zero of_other = cond (eqb (tag_of l strand side % 8192) 0) of_zero of_other

-- N of ps0: 8 KB doubled N times is the table's length, and the entry stands where ps0's pointer would point if the table were at 0
abbrev pub table_bytes : Ledger → ℕ → ℕ → ℕ
table_bytes l strand side = 0x2000 * 2 ^ (base_of l strand side 0 % 16)

abbrev pub miss_code : Ledger → ℕ → ℕ → ℕ
miss_code l strand side = configuration_of l strand side % 8

unfoldable pub entry_place : Ledger → ℕ → ℕ → ℕ
entry_place l strand side =
    let tag : ℕ = tag_of l strand side in
    pointer_of (base_of l strand side 0 % 16) (miss_code l strand side) (tag - tag % 8192)

-- 5, 6 and 14; they are all that handing back asks
unfoldable pub miss_questions : Ledger → ℕ → ℕ → List ℕ → List ℕ → List (ℕ × Bool)
miss_questions l strand side of_zero of_other =
    (5, leb strand 3) ∷ (6, leb side 1) ∷ (14, eqb (length (table_for l strand side of_zero of_other)) (table_bytes l strand side)) ∷ []

-- a TSB's tag is one number: 2^48 times the context, and the address in units of 4 MB; of a 256 MB page it counts in units of 256 MB
unfoldable pub tag_agrees : Ledger → ℕ → ℕ → ℕ → Bool
tag_agrees l strand side tag =
    let missed : ℕ = tag_of l strand side in
    cond (eqb (miss_code l strand side) 5)
    (eqb (tag / 64) (missed % 8192 * 2 ^ 42 + missed / 0x1000_0000 % 2 ^ 36))
    (eqb tag (missed % 8192 * 2 ^ 48 + missed / 0x40_0000 % 2 ^ 42))

-- v is set, and the size is ps0's
abbrev pub word_agrees : Ledger → ℕ → ℕ → ℕ → Bool
word_agrees l strand side word = (leb (2 ^ 63) word && ltb word (2 ^ 64)) && eqb (word % 16) (miss_code l strand side)

-- what the tables have for a miss: a refusal, an entry that does not agree, or one that does, by its word
pub data Miss : Type 0 where
  refused : ℕ → Miss
  absent : Miss
  present : ℕ → Miss

-- of the entry that stands first in the bytes
unfoldable pub miss_in : Ledger → ℕ → ℕ → List ℕ → Miss
miss_in l strand side entry =
    let word : ℕ = value_from 0 (take 8 (drop 8 entry)) in
    cond (tag_agrees l strand side (value_from 0 (take 8 entry)) && word_agrees l strand side word) (present word) absent

unfoldable pub miss : Ledger → ℕ → ℕ → List ℕ → List ℕ → Miss
miss l strand side of_zero of_other =
    let number : ℕ = first_no (miss_questions l strand side of_zero of_other) in
    cond (eqb number 0) (miss_in l strand side (drop (entry_place l strand side) (table_for l strand side of_zero of_other))) (refused number)

-- an insertion from 11 on
unfoldable pub enters_insertion : (ℕ → ℕ) → Ledger → ℕ → ℕ → ℕ → ℕ → Name → Written
enters_insertion n l strand side flags word d =
    let number : ℕ = first_no (insertion_questions l strand side word) in
    cond (eqb number 0) (inserts (n side) l side (new_entry l strand side flags word) d) (answers l (line 5 number 0 0 0 0))

-- the entry goes in unlocked and virtual
abbrev pub serves : (ℕ → ℕ) → Ledger → ℕ → ℕ → Miss → Name → Written
serves n l strand side (refused number) d = answers l (line 5 number 0 0 0 0)
serves n l strand side absent d = answers l (line 6 0 0 0 0 0)
serves n l strand side (present word) d = enters_insertion n l strand side 0 word d
