-- What the code that acts asks of its caller.
-- Assumes nothing.
use Rattle.std.specs.Prelude.{ℕ, ◌+◌, ◌^◌, ◌<◌, ◌≡◌, Bool, List, Some, None, Ok, Err, Option, Result}
use Rattle.machine.specs.Slots.{context_of}
use Rattle.machine.specs.State.{state_in}
use Rattle.state.specs.Calls.{SoundIn}
use Rattle.machine.specs.Questions.{verdict}
use Rattle.machine.specs.declared.Command.{Command}
use Rattle.machine.specs.declared.Command.TheVariants as command
use Rattle.machine.specs.declared.Slot.{Slot}
use Rattle.machine.specs.declared.NoSlot.{NoSlot}

-- what a displaced entry must be for its place to fit a word: every entry of a sound side is so
abbrev pub PlaceFits : Result (Option Slot) NoSlot → Type 0
PlaceFits (Ok None) = Unit {0}
PlaceFits (Ok (Some x)) = x.page + context_of x < 2 ^ 64
PlaceFits (Err _) = Unit {0}

-- strands, sides and registers within the state
abbrev pub OperandsFit : Command → Type 0
OperandsFit (command.Write strand number value) = (strand < 4) × (number < 32)
OperandsFit (command.Insert strand side flags word) = (strand < 4) × (side < 2)
OperandsFit (command.DemapPage strand side selector flags address) = (strand < 4) × (side < 2)
OperandsFit (command.DemapContext strand side selector) = (strand < 4) × (side < 2)
OperandsFit (command.DemapAll strand side) = (strand < 4) × (side < 2)
OperandsFit (command.Invalidate side) = side < 2
OperandsFit (command.Access strand kind selector size address) = (strand < 4) × (size < 4)
OperandsFit (command.Read strand number) = (strand < 4) × (number < 32)
OperandsFit (command.Pointers strand side) = (strand < 4) × (side < 2)
OperandsFit (command.Rate strand side) = (strand < 4) × (side < 2)

-- the words of a sound state on which the command passed its questions, whatever stream it came from
pub record Ready (words : List ℕ) (c : Command) : Type 0 where
  pub sound : SoundIn words
  pub passed : (hv : Bool) × (verdict hv (state_in words) c ≡ Ok tt)
  pub fit : OperandsFit c
