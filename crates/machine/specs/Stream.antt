-- Document 01, "The stream": commands read from bytes, answers as bytes, and a run.
-- Assumes nothing.
use Rattle.std.specs.Prelude.{ℕ, zero, suc, ◌+◌, ◌*◌, ◌-◌, ◌/◌, ◌%◌, ◌^◌, Bool, cond, List, [], ◌∷◌, ◌++◌, eqb, ltb, length, get_or, Ok, Err, Result}
use Rattle.std.proofs.lemmas.List.Edits.{sets}
use Rattle.laws.specs.Tests.{tick}
use Rattle.machine.specs.State.{Counts, State, state_of, encode, words_sound}
use Rattle.machine.specs.Questions.{refusal_number}
use Rattle.machine.specs.Access.{trap_number, trap_fault}
use Rattle.machine.specs.Step.{step}
use Rattle.machine.specs.declared.Command.{Command}
use Rattle.machine.specs.declared.Command.TheVariants as command
use Rattle.machine.specs.declared.Answer.{Answer}
use Rattle.machine.specs.declared.Answer.TheVariants as answer
use Rattle.machine.specs.declared.Stop.{Stop}
use Rattle.machine.specs.declared.Stop.TheVariants.{Unsound, NoCommand, Truncated, NoRoom}
use Rattle.machine.specs.declared.Report.{Report}

abbrev pub Bytes : Type 0
Bytes = List ℕ

-- ---- commands
abbrev pub byte : Bytes → ℕ → ℕ
byte s i = get_or s i 0

-- two, four, eight bytes from i, big-endian
abbrev pub two : Bytes → ℕ → ℕ
two s i = byte s i * 256 + byte s (i + 1)

abbrev pub four : Bytes → ℕ → ℕ
four s i = two s i * 65536 + two s (i + 2)

unfoldable pub eight : Bytes → ℕ → ℕ
eight s i = four s i * 4294967296 + four s (i + 4)

-- the bytes of a command by its first, that one included; 0 where the byte is no command's
unfoldable pub width_of : ℕ → ℕ
width_of b =
    cond (eqb b 1) 11 (cond (eqb b 2) 12 (cond (eqb b 3) 13 (cond (eqb b 4) 4 (cond (eqb b 5) 3
    (cond (eqb b 6) 2 (cond (eqb b 7) 13 (cond (eqb b 8) 3 (cond (eqb b 9) 3 (cond (eqb b 10) 3 0)))))))))

-- the command that a known byte begins, with its operands behind it
unfoldable pub command_at : Bytes → ℕ → Command
command_at s at =
    let operand : ℕ → ℕ = λ i. byte s (at + i) in
    cond (eqb (byte s at) 1) (command.Write (operand 1) (operand 2) (eight s (at + 3)))
    (cond (eqb (byte s at) 2) (command.Insert (operand 1) (operand 2) (operand 3) (eight s (at + 4)))
    (cond (eqb (byte s at) 3) (command.DemapPage (operand 1) (operand 2) (operand 3) (operand 4) (record { 0 = eight s (at + 5) }))
    (cond (eqb (byte s at) 4) (command.DemapContext (operand 1) (operand 2) (operand 3))
    (cond (eqb (byte s at) 5) (command.DemapAll (operand 1) (operand 2))
    (cond (eqb (byte s at) 6) (command.Invalidate (operand 1))
    (cond (eqb (byte s at) 7) (command.Access (operand 1) (operand 2) (operand 3) (operand 4) (record { 0 = eight s (at + 5) }))
    (cond (eqb (byte s at) 8) (command.Read (operand 1) (operand 2))
    (cond (eqb (byte s at) 9) (command.Pointers (operand 1) (operand 2))
    (command.Rate (operand 1) (operand 2))))))))))

-- the number of why a run ends before its input does
abbrev pub stop_number : Stop → ℕ
stop_number Unsound = 1
stop_number NoCommand = 2
stop_number Truncated = 3
stop_number NoRoom = 4

-- what stands at a position, a command and its width: number 2 where the byte is no command's, 3 where its width runs past the end
unfoldable pub decode_at : Bytes → ℕ → Result (Command × ℕ) Stop
decode_at s at =
    let width : ℕ = width_of (byte s at) in
    cond (eqb width 0) (Err NoCommand)
    (cond (ltb (length s - at) width) (Err Truncated)
    (Ok (command_at s at, width)))

-- ---- answers
-- eight bytes of a value, big-endian
abbrev pub bytes : ℕ → Bytes
bytes v =
    v / 2 ^ 56 % 256 ∷ v / 2 ^ 48 % 256 ∷ v / 2 ^ 40 % 256 ∷ v / 2 ^ 32 % 256
    ∷ v / 2 ^ 24 % 256 ∷ v / 2 ^ 16 % 256 ∷ v / 2 ^ 8 % 256 ∷ v % 256 ∷ []

-- an answer: its kind, three bytes a, b and c (of each number the low eight bits), four zero bytes, and two values
abbrev pub answer_of : ℕ → ℕ → ℕ → ℕ → ℕ → ℕ → Bytes
answer_of kind a b c v w = (kind ∷ a % 256 ∷ b % 256 ∷ c % 256 ∷ 0 ∷ 0 ∷ 0 ∷ 0 ∷ []) ++ (bytes v ++ bytes w)

-- what an answer has to say; the bytes not named are zero
pub record Fields : Type 0 where
  pub kind : ℕ
  pub a : ℕ
  pub b : ℕ
  pub c : ℕ
  pub first : ℕ
  pub second : ℕ

abbrev pub fields : ℕ → ℕ → ℕ → ℕ → ℕ → ℕ → Fields
fields kind a b c v w = record { kind = kind; a = a; b = b; c = c; first = v; second = w }

abbrev pub fields_of : Answer → Fields
-- done; a demap says how many it removed
fields_of (answer.Done n) = fields 0 0 0 0 n 0
-- physical: a has the attributes, c the size code (document 02, U3)
fields_of (answer.Physical t) = fields 1 t.attributes 0 t.code t.address.0 0
-- trap: the address used, then tag access as the trap leaves it
fields_of (answer.Trap t) = fields 2 (trap_number t.trap) (trap_fault t.trap) 0 t.address.0 t.tag
-- read: a register, both pointers, or the miss rate (document 02, U5)
fields_of (answer.Read v w) = fields 3 0 0 0 v w
-- displaced: `place` has page address and context
fields_of (answer.Displaced d) = fields 4 0 d.partition (tick d.real) d.place d.word
-- refused: a has the number
fields_of (answer.Refused r) = fields 5 (refusal_number r) 0 0 0 0
-- not in table (document 02, U1)
fields_of answer.NotInTable = fields 6 0 0 0 0 0
-- refused: number 1
fields_of answer.Unsound = fields 5 1 0 0 0 0

unfoldable pub answer_bytes : Answer → Bytes
answer_bytes x = let f : Fields = fields_of x in answer_of f.kind f.a f.b f.c f.first f.second

-- ---- a run
-- what a run takes of its bytes: it goes by the bytes and the room alone
pub record Taken : Type 0 where
  pub commands : List Command
  pub width : ℕ
  pub stop : ℕ

abbrev pub ended : ℕ → Taken
ended k = record { commands = []; width = 0; stop = k }

abbrev pub more : Command → ℕ → Taken → Taken
more c width rest = record { commands = c ∷ rest.commands; width = width + rest.width; stop = rest.stop }

-- number 4: no room for one more answer
abbrev pub takes_one : Result (Command × ℕ) Stop → ℕ → (ℕ → Taken) → Taken
takes_one (Err k) room rest = ended (stop_number k)
takes_one (Ok (c, width)) room rest = cond (ltb room 24) (ended (stop_number NoRoom)) (more c width (rest width))

-- from a position, with room left, at most `turns` commands
unfoldable pub takes : ℕ → Bytes → ℕ → ℕ → Taken
takes zero input at room = ended 0
takes (suc turns) input at room =
    cond (ltb at (length input)) (takes_one (decode_at input at) room (λ width. takes turns input (at + width) (room - 24))) (ended 0)

-- a command has a byte at least, so there are no more turns than bytes
abbrev pub taken_of : Bytes → ℕ → Taken
taken_of input room = takes (length input) input 0 room

-- the state after commands, and the bytes of their answers
unfoldable pub after : Bool → State → List Command → State
after hv u [] = u
after hv u (c ∷ cs) = after hv (step hv u c).state cs

unfoldable pub answers_bytes : Bool → State → List Command → Bytes
answers_bytes hv u [] = []
answers_bytes hv u (c ∷ cs) = answer_bytes (step hv u c).answer ++ answers_bytes hv (step hv u c).state cs

-- all that a run leaves and returns
pub record Outcome : Type 0 where
  pub words : List ℕ
  pub output : Bytes
  pub answered : ℕ
  pub taken : ℕ
  pub stop : ℕ

-- what a call leaves in the lent words and bytes, with what it returns
abbrev pub outcome : List ℕ → Bytes → Report → Outcome
outcome words output r = record { words = words; output = output; answered = r.answered; taken = r.taken; stop = r.stop }

-- after `answered` commands of `at` bytes, the commands yet to be taken
unfoldable pub finish : Bool → State → Bytes → ℕ → ℕ → Taken → Outcome
finish hv u output answered at rest = record {
  words = encode (after hv u rest.commands);
  output = sets output (answered * 24) (answers_bytes hv u rest.commands);
  answered = answered + length rest.commands;
  taken = at + rest.width;
  stop = rest.stop;
}

-- number 1 once and first; then command after command, each with the stream's mark
unfoldable pub run_of : Bool → Counts → List ℕ → Bytes → Bytes → Outcome
run_of hv n words input output =
    cond (words_sound n words)
    (finish hv (state_of n words) output 0 0 (taken_of input (length output)))
    (record { words = words; output = output; answered = 0; taken = 0; stop = stop_number Unsound })
