-- The state: a register file, the slots of two sides and the miss records; as the words that a caller lends; reset; and soundness (number 1).
-- Over any number of slots on either side.
-- Assumes nothing.
use Rattle.std.specs.Prelude.{ℕ, ◌+◌, ◌*◌, Bool, cond, ◌&&◌, List, ◌++◌, eqb, length, take, drop, replicate}
use Rattle.machine.specs.Record.{Records, record_count, older_start, no_records, records_sound}
use Rattle.machine.specs.Registers.{register_words, registers_sound, reset_registers}
use Rattle.machine.specs.Slots.{slots_of, words_of, no_slot}
use Rattle.machine.specs.Sound.{side_sound}
use Rattle.machine.specs.declared.Slot.{Slot}

-- how many slots the instruction TLB (side 0) and the data TLB (side 1) have
pub record Counts : Type 0 where
  pub itlb : ℕ
  pub dtlb : ℕ

-- the T1's: 64 slots in either TLB (document 01: buffer)
abbrev pub counts : Counts
counts = record { itlb = 64; dtlb = 64 }

-- of a side, as the claims speak of it
abbrev pub slot_count : Counts → ℕ → ℕ
slot_count n side = cond (eqb side 0) n.itlb n.dtlb

pub record State : Type 0 where
  pub registers : List ℕ
  pub itlb : List Slot
  pub dtlb : List Slot
  pub records : Records

abbrev pub side_of : State → ℕ → List Slot
side_of u side = cond (eqb side 0) u.itlb u.dtlb

abbrev pub with_side : State → ℕ → List Slot → State
with_side u side s = record {
  registers = u.registers;
  itlb = cond (eqb side 0) s u.itlb;
  dtlb = cond (eqb side 0) u.dtlb s;
  records = u.records;
}

abbrev pub with_registers : State → List ℕ → State
with_registers u file = record { registers = file; itlb = u.itlb; dtlb = u.dtlb; records = u.records }

abbrev pub with_records : State → Records → State
with_records u x = record { registers = u.registers; itlb = u.itlb; dtlb = u.dtlb; records = x }

-- ---- the words of a state: registers, side 0, side 1, and of the records what each has seen, its newest word, its older words
abbrev pub record_start : Counts → ℕ
record_start n = register_words + n.itlb * 4 + n.dtlb * 4

abbrev pub state_words : Counts → ℕ
state_words n = record_start n + record_count + record_count + older_start record_count

unfoldable pub state_of : Counts → List ℕ → State
state_of n words = record {
  registers = take register_words words;
  itlb = slots_of (take (n.itlb * 4) (drop register_words words));
  dtlb = slots_of (take (n.dtlb * 4) (drop (register_words + n.itlb * 4) words));
  records = record {
    seen = take record_count (drop (record_start n) words);
    newest = take record_count (drop (record_start n + record_count) words);
    older = drop (record_start n + record_count + record_count) words;
  };
}

-- the state that lent words hold, and how many words that is
abbrev pub state_in : List ℕ → State
state_in words = state_of counts words

abbrev pub state_length : ℕ
state_length = state_words counts

unfoldable pub encode : State → List ℕ
encode u = u.registers ++ (words_of u.itlb ++ (words_of u.dtlb ++ (u.records.seen ++ (u.records.newest ++ u.records.older))))

-- reset: mode 2, every other register 0, every slot and every record empty
unfoldable pub reset : Counts → State
reset n = record { registers = reset_registers; itlb = replicate n.itlb no_slot; dtlb = replicate n.dtlb no_slot; records = no_records }

-- the call that resets lent words: a state of another length stays as it is and gets 1
unfoldable pub reset_of : Counts → List ℕ → List ℕ
reset_of n words = cond (eqb (length words) (state_words n)) (encode (reset n)) words

unfoldable pub reset_number : Counts → List ℕ → ℕ
reset_number n words = cond (eqb (length words) (state_words n)) 0 1

-- "Sound means": registers, on each side every slot by itself and none that overlap, and the records (document 02, U5)
unfoldable pub side_fits : ℕ → List Slot → Bool
side_fits n s = eqb (length s) n && side_sound s

unfoldable pub sound : Counts → State → Bool
sound n u = registers_sound u.registers && (side_fits n.itlb u.itlb && (side_fits n.dtlb u.dtlb && records_sound u.records))

-- number 1, of any words: a state of another length is not sound
unfoldable pub words_sound : Counts → List ℕ → Bool
words_sound n words = eqb (length words) (state_words n) && sound n (state_of n words)
