-- Document 02, U5: what changes a miss record.
-- Assumes nothing.
use Rattle.std.specs.Prelude.{ℕ, ◌<◌, ◌≡◌, Bool, true, ◌⊎◌, get_or, Ok}
use Rattle.machine.specs.Record.{record_of, older_of}
use Rattle.machine.specs.State.{Counts, State, sound}
use Rattle.machine.specs.Questions.{kind_side, verdict}
use Rattle.machine.specs.Access.{access_of, prepare}
use Rattle.machine.specs.Step.{step}
use Rattle.machine.specs.Stream.{Bytes}
use Rattle.machine.specs.Serve.{serve}
use Rattle.machine.specs.declared.VirtualAddress.{VirtualAddress}
use Rattle.machine.specs.declared.Prepared.TheVariants.{Lookup}
use Rattle.machine.specs.declared.Command.{Command}
use Rattle.machine.specs.declared.Command.TheVariants as command

-- two states with the same record of a strand and side
pub record SameRecord (strand side : ℕ) (u v : State) : Type 0 where
  pub seen : get_or v.records.seen (record_of strand side) 0 ≡ get_or u.records.seen (record_of strand side) 0
  pub newest : get_or v.records.newest (record_of strand side) 0 ≡ get_or u.records.newest (record_of strand side) 0
  pub older : older_of v.records.older (record_of strand side) ≡ older_of u.records.older (record_of strand side)

-- the command is an access by the strand on the side that is not refused, and that no step before the lookup ends
pub data LooksUp (hv : Bool) (u : State) (strand side : ℕ) : Command → Type 0 where
  looks_up : {kind selector size : ℕ} {address : VirtualAddress} → verdict hv u (command.Access strand kind selector size address) ≡ Ok tt
      → kind_side kind ≡ side
      → prepare u.registers (access_of u.registers strand kind selector size address) ≡ Lookup
      → LooksUp hv u strand side (command.Access strand kind selector size address)

pub record Lookups : Type 0 where
  -- nothing else changes it: no other command, none that is refused, and none of another strand or side
  pub by_command : (hv : Bool) (n : Counts) (u : State) (c : Command) (strand side : ℕ) → sound n u ≡ true → strand < 4 → side < 2
      → SameRecord strand side u (step hv u c).state ⊎ LooksUp hv u strand side c
  -- and a served miss changes none
  pub by_miss : (u : State) (strand side : ℕ) (of_zero of_other : Bytes) → (serve u strand side of_zero of_other).state.records ≡ u.records
