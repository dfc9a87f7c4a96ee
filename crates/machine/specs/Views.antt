-- A command as the claims speak of it: an insertion, an access, or any other.
-- Assumes nothing.
use Rattle.std.specs.Prelude.{ℕ}
use Rattle.machine.specs.declared.VirtualAddress.{VirtualAddress}
use Rattle.machine.specs.declared.Command.{Command}
use Rattle.machine.specs.declared.Command.TheVariants as command

pub data View : Type 0 where
  insertion : (strand side flags word : ℕ) → View
  access : (strand kind selector size : ℕ) → VirtualAddress → View
  other : View

abbrev pub view : Command → View
view (command.Write strand number value) = other
view (command.Insert strand side flags word) = insertion strand side flags word
view (command.DemapPage strand side selector flags address) = other
view (command.DemapContext strand side selector) = other
view (command.DemapAll strand side) = other
view (command.Invalidate side) = other
view (command.Access strand kind selector size address) = access strand kind selector size address
view (command.Read strand number) = other
view (command.Pointers strand side) = other
view (command.Rate strand side) = other
