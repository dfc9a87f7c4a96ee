-- Document 01, "The stream": the wire format of commands as its own text, what a run reads by it, and what it means that the decoder does. Assumes nothing.
use Rattle.std.specs.Prelude.{ℕ, ◌-◌, ◌^◌, ◌≤◌, ◌<◌, ◌≡◌, Bool, true, ◌||◌, List, [], ◌∷◌, ◌++◌, ltb, length, get_or, Ok, Err}
use Rattle.machine.specs.Stream.{decode_at, stop_number}
use Rattle.machine.specs.Ledger.{big_endian}
use Rattle.machine.specs.declared.Command.{Command}
use Rattle.machine.specs.declared.Command.TheVariants as command
use Rattle.machine.specs.declared.Stop.TheVariants.{Unsound, NoCommand, Truncated, NoRoom}

-- a command's own byte, then its operands in order; one that "The stream" marks 8 takes eight bytes, highest first
unfoldable pub encoded : Command → List ℕ
encoded (command.Write strand register value) = 0x01 ∷ strand ∷ register ∷ big_endian 8 value
-- flags: 1 real, 2 locked
encoded (command.Insert strand side flags word) = 0x02 ∷ strand ∷ side ∷ flags ∷ big_endian 8 word
-- flags: 1 real
encoded (command.DemapPage strand side selector flags address) = 0x03 ∷ strand ∷ side ∷ selector ∷ flags ∷ big_endian 8 address.0
encoded (command.DemapContext strand side selector) = 0x04 ∷ strand ∷ side ∷ selector ∷ []
encoded (command.DemapAll strand side) = 0x05 ∷ strand ∷ side ∷ []
encoded (command.Invalidate side) = 0x06 ∷ side ∷ []
encoded (command.Access strand kind selector size address) = 0x07 ∷ strand ∷ kind ∷ selector ∷ size ∷ big_endian 8 address.0
encoded (command.Read strand register) = 0x08 ∷ strand ∷ register ∷ []
encoded (command.Pointers strand side) = 0x09 ∷ strand ∷ side ∷ []
-- document 02, U5
encoded (command.Rate strand side) = 0x0A ∷ strand ∷ side ∷ []

-- the operand marked 8 fits its eight bytes; an operand of one byte is written as it is
unfoldable pub fits : Command → Bool
fits (command.Write strand register value) = ltb value (2 ^ 64)
fits (command.Insert strand side flags word) = ltb word (2 ^ 64)
fits (command.DemapPage strand side selector flags address) = ltb address.0 (2 ^ 64)
fits (command.DemapContext strand side selector) = true
fits (command.DemapAll strand side) = true
fits (command.Invalidate side) = true
fits (command.Access strand kind selector size address) = ltb address.0 (2 ^ 64)
fits (command.Read strand register) = true
fits (command.Pointers strand side) = true
fits (command.Rate strand side) = true

-- ---- what a run takes
-- of bytes, with room for answers: the commands that a run takes, the bytes that it leaves, and why it ends ("The ledger", second paragraph)
pub data Reads : List ℕ → ℕ → List Command → List ℕ → ℕ → Type 0 where
  -- 0: no byte is left
  end : {room : ℕ} → Reads [] room [] [] 0
  -- number 2: the byte is no command's
  unknown : {b room : ℕ} {r : List ℕ} → (ltb b 1 || ltb 10 b) ≡ true → Reads (b ∷ r) room [] (b ∷ r) 2
  -- number 3: a command cut off behind its first byte
  short : {room : ℕ} {q : List ℕ} (c : Command) (r : List ℕ) → encoded c ≡ q ++ r → 1 ≤ length q → 1 ≤ length r → Reads q room [] q 3
  -- number 4: a whole command, and room for less than an answer
  full : {room : ℕ} {s : List ℕ} (c : Command) (r : List ℕ) → fits c ≡ true → s ≡ encoded c ++ r → room < 24 → Reads s room [] s 4
  -- a command, and what is read behind it
  next : {room stop : ℕ} {s r rest : List ℕ} {cs : List Command} {c : Command} → fits c ≡ true → s ≡ encoded c ++ r → 24 ≤ room
      → Reads r (room - 24) cs rest stop → Reads s room (c ∷ cs) rest stop

pub record Reading : Type 0 where
  pub commands : List Command
  pub rest : List ℕ
  pub stop : ℕ

abbrev pub ReadAs : List ℕ → ℕ → Reading → Type 0
ReadAs s room t = Reads s room t.commands t.rest t.stop

-- all bytes can be read, whatever the room. A call is held to every reading, so two of them would have to come to the same
abbrev pub Readable : Type 0
Readable = (s : List ℕ) → ((i : ℕ) → get_or s i 0 < 256) → (room : ℕ) → (t : Reading) × ReadAs s room t

-- ---- the decoder reads the format, at any place of a stream
pub record Decodes : Type 0 where
  -- a command written there is the command read, of its width
  pub known : (p r : List ℕ) (c : Command) → fits c ≡ true → decode_at (p ++ (encoded c ++ r)) (length p) ≡ Ok (c, length (encoded c))
  -- number 2: the byte is no command's
  pub unknown : (s : List ℕ) (at : ℕ) → (ltb (get_or s at 0) 1 || ltb 10 (get_or s at 0)) ≡ true → decode_at s at ≡ Err NoCommand
  -- number 3: a command cut off after its first byte
  pub short : (p q r : List ℕ) (c : Command) → encoded c ≡ q ++ r → 1 ≤ length q → 1 ≤ length r → decode_at (p ++ q) (length p) ≡ Err Truncated
  -- the four numbers themselves
  pub numbers : (stop_number Unsound ≡ 1) × (stop_number NoCommand ≡ 2) × (stop_number Truncated ≡ 3) × (stop_number NoRoom ≡ 4)
