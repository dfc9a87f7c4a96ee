-- Document 01, "Examples": the starred ones, on definitions and fields, and the printed run.
-- Assumes nothing.
use Rattle.std.specs.Prelude.{ℕ, ◌≡◌, Bool, true, false, [], ◌∷◌, ltb, replicate, Ok, Err}
use Rattle.machine.specs.Pages.{in_range}
use Rattle.machine.specs.Words.{bits, physical_at}
use Rattle.machine.specs.Registers.{mode, reset_registers}
use Rattle.machine.specs.State.{counts, State, encode, reset}
use Rattle.machine.specs.Questions.{refusal_number, verdict}
use Rattle.machine.specs.Access.{prepare, judge, trap_number, trap_fault}
use Rattle.machine.specs.declared.Access.{Access}
use Rattle.machine.specs.declared.Prepared.TheVariants as prepared
use Rattle.machine.specs.Tsb.{tsb_pointer}
use Rattle.machine.specs.Stream.{Bytes, Outcome, run_of}
use Rattle.machine.specs.declared.Command.TheVariants as command
use Rattle.machine.specs.declared.Refusal.{Refusal}
use Rattle.machine.specs.declared.Trap.{Trap}
use Rattle.machine.specs.declared.Translation.{Translation}

-- a store of 8 bytes by the primary context, and a load
abbrev pub store : ℕ → Access
store address = record { strand = 0; kind = 2; side = 1; selector = 0; size = 3; used = record { 0 = address } }

abbrev pub load : ℕ → Access
load address = record { strand = 0; kind = 1; side = 1; selector = 0; size = 3; used = record { 0 = address } }

pub record Starred : Type 0 where
  -- first example: the last address before the hole, the first and the last in it, the first behind it
  pub range : (in_range 0x0000_7FFF_FFFF_FFFF ≡ true) × (in_range 0x0000_8000_0000_0000 ≡ false)
      × (in_range 0xFFFF_7FFF_FFFF_FFFF ≡ false) × (in_range 0xFFFF_8000_0000_0000 ≡ true)
  -- second: the largest context is accepted of a strand that may write it (document 02, U6), one more gets number 10 in every mode
  pub accepted : (hv : Bool) (u : State) → ltb 0 (mode u.registers 0) ≡ true → verdict hv u (command.Write 0 1 8191) ≡ Ok tt
  pub refused : (hv : Bool) (u : State) → (r : Refusal) × (verdict hv u (command.Write 0 1 8192) ≡ Err r) × (refusal_number r ≡ 10)
  -- third: a 4 MB page whose word's address is not at a page start
  pub large : (physical_at 0x8000_0000_1240_2003 (record { 0 = 0x8040_1234 })).0 ≡ 0x1240_1234
  -- fourth: p stops a user's store before w does; bit 8 is p, bit 6 is w, and registers that are all zero are a user's
  pub privileged : (mode [] 0 ≡ 0) × (bits 8 1 0x8000_0000_0000_0100 ≡ 1) × (bits 6 1 0x8000_0000_0000_0100 ≡ 0)
      × ((t : Trap) × (judge [] (store 0) 0x8000_0000_0000_0100 ≡ Err t) × (trap_number t ≡ 0x30) × (trap_fault t ≡ 0x01))
  -- fifth: a bypass with bit 39 set keeps the address and answers e
  pub bypassed : (t : Translation) × (prepare reset_registers (load 0x80_0000_0010) ≡ prepared.Bypass t) × (t.address.0 ≡ 0x80_0000_0010) × (t.attributes ≡ 2)
  -- sixth: the pointer of one page by a base with N 0, then by the same base with N 1
  pub pointers : (tsb_pointer 0x1000_0000 0 0x40_2000 ≡ 0x1000_0010) × (tsb_pointer 0x1000_0001 0 0x40_2000 ≡ 0x1000_2010)

-- ---- the printed run: the bytes that "Examples" shows, and the five answers as bytes. The strand is a user's by then: its insertion gets number 16, and
-- what missed misses again (document 02, U6)
unfoldable pub given : Bytes
given =
    0x01 ∷ 0 ∷ 4 ∷ 0 ∷ 0 ∷ 0 ∷ 0 ∷ 0 ∷ 0 ∷ 0 ∷ 3
    ∷ 0x01 ∷ 0 ∷ 3 ∷ 0 ∷ 0 ∷ 0 ∷ 0 ∷ 0 ∷ 0 ∷ 0 ∷ 0
    ∷ 0x07 ∷ 0 ∷ 1 ∷ 0 ∷ 3 ∷ 0 ∷ 0 ∷ 0 ∷ 0 ∷ 0 ∷ 0x40 ∷ 0x20 ∷ 0x08
    ∷ 0x02 ∷ 0 ∷ 1 ∷ 0 ∷ 0x80 ∷ 0 ∷ 0 ∷ 0 ∷ 0 ∷ 0x08 ∷ 0x04 ∷ 0x40
    ∷ 0x07 ∷ 0 ∷ 1 ∷ 0 ∷ 3 ∷ 0 ∷ 0 ∷ 0 ∷ 0 ∷ 0 ∷ 0x40 ∷ 0x20 ∷ 0x08 ∷ []

unfoldable pub printed : Bytes
printed =
    0 ∷ 0 ∷ 0 ∷ 0 ∷ 0 ∷ 0 ∷ 0 ∷ 0 ∷ 0 ∷ 0 ∷ 0 ∷ 0 ∷ 0 ∷ 0 ∷ 0 ∷ 0 ∷ 0 ∷ 0 ∷ 0 ∷ 0 ∷ 0 ∷ 0 ∷ 0 ∷ 0
    ∷ 0 ∷ 0 ∷ 0 ∷ 0 ∷ 0 ∷ 0 ∷ 0 ∷ 0 ∷ 0 ∷ 0 ∷ 0 ∷ 0 ∷ 0 ∷ 0 ∷ 0 ∷ 0 ∷ 0 ∷ 0 ∷ 0 ∷ 0 ∷ 0 ∷ 0 ∷ 0 ∷ 0
    ∷ 0x02 ∷ 0x68 ∷ 0 ∷ 0 ∷ 0 ∷ 0 ∷ 0 ∷ 0 ∷ 0 ∷ 0 ∷ 0 ∷ 0 ∷ 0 ∷ 0x40 ∷ 0x20 ∷ 0x08 ∷ 0 ∷ 0 ∷ 0 ∷ 0 ∷ 0 ∷ 0x40 ∷ 0x20 ∷ 0
    ∷ 0x05 ∷ 0x10 ∷ 0 ∷ 0 ∷ 0 ∷ 0 ∷ 0 ∷ 0 ∷ 0 ∷ 0 ∷ 0 ∷ 0 ∷ 0 ∷ 0 ∷ 0 ∷ 0 ∷ 0 ∷ 0 ∷ 0 ∷ 0 ∷ 0 ∷ 0 ∷ 0 ∷ 0
    ∷ 0x02 ∷ 0x68 ∷ 0 ∷ 0 ∷ 0 ∷ 0 ∷ 0 ∷ 0 ∷ 0 ∷ 0 ∷ 0 ∷ 0 ∷ 0 ∷ 0x40 ∷ 0x20 ∷ 0x08 ∷ 0 ∷ 0 ∷ 0 ∷ 0 ∷ 0 ∷ 0x40 ∷ 0x20 ∷ 0 ∷ []

-- from reset, without the stream's mark, with room for five answers and nothing more; the three numbers are those of its line `end`
unfoldable pub PrintedRun : Type 0
PrintedRun =
    let o : Outcome = run_of false counts (encode (reset counts)) given (replicate 120 0xFF) in
    (o.output ≡ printed) × (o.answered ≡ 5) × (o.taken ≡ 60) × (o.stop ≡ 0)
