-- Document 02, U1: a miss served from the guest's TSB. The caller lends it as two tables: of context zero, and of every other context.
-- Assumes nothing.
use Rattle.std.specs.Prelude.{ℕ, ◌+◌, ◌*◌, ◌/◌, ◌%◌, ◌^◌, Bool, cond, ◌&&◌, List, [], ◌∷◌, eqb, ltb, length, take, drop, Ok, Err, Result}
use Rattle.machine.specs.Words.{bits}
use Rattle.machine.specs.Registers.{tag_access, tag_address}
use Rattle.machine.specs.Tsb.{tsb_offset, miss_context, tsb_base, tsb_code}
use Rattle.machine.specs.State.{Counts, State, state_of, encode, words_sound}
use Rattle.machine.specs.Questions.{refusal_number, Question, question, ask}
use Rattle.machine.specs.Access.{Stepped, stepped}
use Rattle.machine.specs.Step.{insert_step}
use Rattle.machine.specs.Stream.{Bytes, eight}
use Rattle.machine.specs.declared.Refusal.TheVariants as refusal
use Rattle.machine.specs.declared.Answer.{Answer}
use Rattle.machine.specs.declared.Answer.TheVariants as answer
use Rattle.machine.specs.declared.Part.{Part}
use Rattle.machine.specs.declared.Refusal.{Refusal}

-- ---- the table, and the place in it
abbrev pub is_zero_context : List ℕ → ℕ → ℕ → Bool
is_zero_context file strand side = eqb (miss_context file strand side) 0

abbrev pub table_used : List ℕ → ℕ → ℕ → Bytes → Bytes → Bytes
table_used file strand side of_zero of_other = cond (is_zero_context file strand side) of_zero of_other

-- N and the size code are those of ps0
abbrev pub table_n : List ℕ → ℕ → ℕ → ℕ
table_n file strand side = tsb_base file strand side 0 % 2 ^ 4

abbrev pub table_length : List ℕ → ℕ → ℕ → ℕ
table_length file strand side = 16 * 2 ^ (9 + table_n file strand side)

-- where the 16 bytes for the pointer stand: the base's address plays no part
abbrev pub entry_start : List ℕ → ℕ → ℕ → ℕ
entry_start file strand side = tsb_offset (table_n file strand side) (tsb_code file strand side 0) (tag_address (tag_access file strand side)).0

-- 5, 6, and 14, which is asked of the table used alone
unfoldable pub asked_table : State → ℕ → ℕ → Bytes → Bytes → List Question
asked_table u strand side of_zero of_other =
    question refusal.Strand (ltb strand 4)
    ∷ question refusal.Side (ltb side 2)
    ∷ question refusal.Table (eqb (length (table_used u.registers strand side of_zero of_other)) (table_length u.registers strand side))
    ∷ []

-- ---- handing back
-- a number, and nothing
abbrev pub no_part : ℕ → Part
no_part number = record { number = number; other = 0; start = 0; length = 0 }

abbrev pub part_by : Result (Unit {0}) Refusal → List ℕ → ℕ → ℕ → Part
part_by (Ok _) file strand side =
    record { number = 0; other = cond (is_zero_context file strand side) 0 1; start = entry_start file strand side; length = 16 }
part_by (Err r) file strand side = no_part (refusal_number r)

-- which part of which table, of any words: number 1 is asked first
unfoldable pub part_of : Counts → List ℕ → ℕ → ℕ → Bytes → Bytes → Part
part_of n words strand side of_zero of_other =
    let u : State = state_of n words in
    cond (words_sound n words) (part_by (ask (asked_table u strand side of_zero of_other)) u.registers strand side) (no_part 1)

-- and its bytes
abbrev pub part_bytes : Part → Bytes → Bytes → Bytes
part_bytes p of_zero of_other = take p.length (drop p.start (cond (eqb p.other 0) of_zero of_other))

-- ---- whether an entry fits
-- the tag: the context from bit 48 up, zeros in 47:42, then the address from bit 22 up; of a 256 MB page (code 5) from bit 28 up, and six bits are free
unfoldable pub tag_fits : ℕ → ℕ → ℕ → ℕ → Bool
tag_fits code context address tag =
    eqb (tag / 2 ^ 48) context && (eqb (bits 42 6 tag) 0
    && cond (eqb code 5) (eqb (bits 6 36 tag) (bits 28 36 address)) (eqb (tag % 2 ^ 42) (bits 22 42 address)))

-- the word: v is set, and its size code, all four bits of it, is ps0's
unfoldable pub word_fits : ℕ → ℕ → Bool
word_fits code word = eqb (word / 2 ^ 63) 1 && eqb (word % 2 ^ 4) code

unfoldable pub entry_fits : List ℕ → ℕ → ℕ → ℕ → ℕ → Bool
entry_fits file strand side tag word =
    tag_fits (tsb_code file strand side 0) (miss_context file strand side) (tag_address (tag_access file strand side)).0 tag
    && word_fits (tsb_code file strand side 0) word

-- ---- serving
-- the entry that stands at a byte of a table: its tag, then its word, big-endian. It is inserted unlocked and virtual (flags 0), by 0x02's questions from 11 on
abbrev pub serve_entry : State → ℕ → ℕ → ℕ → ℕ → Stepped
serve_entry u strand side tag word =
    cond (entry_fits u.registers strand side tag word) (insert_step u strand side 0 word) (stepped u answer.NotInTable)

abbrev pub serve_from : State → ℕ → ℕ → Bytes → Stepped
serve_from u strand side table =
    let start : ℕ = entry_start u.registers strand side in
    serve_entry u strand side (eight table start) (eight table (start + 8))

abbrev pub serve_by : Result (Unit {0}) Refusal → State → ℕ → ℕ → Bytes → Stepped
serve_by (Ok _) u strand side table = serve_from u strand side table
serve_by (Err r) u strand side table = stepped u (answer.Refused r)

unfoldable pub serve : State → ℕ → ℕ → Bytes → Bytes → Stepped
serve u strand side of_zero of_other =
    serve_by (ask (asked_table u strand side of_zero of_other)) u strand side (table_used u.registers strand side of_zero of_other)

-- of any words: what a call leaves and answers
pub record Served : Type 0 where
  pub words : List ℕ
  pub answer : Answer

abbrev pub served_as : Stepped → Served
served_as s = record { words = encode s.state; answer = s.answer }

unfoldable pub served_of : Counts → List ℕ → ℕ → ℕ → Bytes → Bytes → Served
served_of n words strand side of_zero of_other =
    cond (words_sound n words)
    (served_as (serve (state_of n words) strand side of_zero of_other))
    (record { words = words; answer = answer.Unsound })
