-- Commands by their view: what holds of insertions, of accesses and of every other command holds of all. Assumes nothing.
use Prim.Native.Nat.{ℕ}
use mathlib.Core.Path.{◌≡◌, refl}
use Rattle.machine.specs.Views.{View, other, view}
use Rattle.machine.specs.Views as views
use Rattle.machine.specs.declared.VirtualAddress.{VirtualAddress}
use Rattle.machine.specs.declared.Command.{Command}
use Rattle.machine.specs.declared.Command.TheVariants as command

pub by-view : {P : Command → Type 0}
    → ((strand side flags word : ℕ) → P (command.Insert strand side flags word))
    → ((strand kind selector size : ℕ) (address : VirtualAddress) → P (command.Access strand kind selector size address))
    → ((c : Command) → view c ≡ other → P c) → (c : Command) → P c
by-view i a o (command.Write strand number value) = o _ refl
by-view i a o (command.Insert strand side flags word) = i strand side flags word
by-view i a o (command.DemapPage strand side selector flags address) = o _ refl
by-view i a o (command.DemapContext strand side selector) = o _ refl
by-view i a o (command.DemapAll strand side) = o _ refl
by-view i a o (command.Invalidate side) = o _ refl
by-view i a o (command.Access strand kind selector size address) = a strand kind selector size address
by-view i a o (command.Read strand number) = o _ refl
by-view i a o (command.Pointers strand side) = o _ refl
by-view i a o (command.Rate strand side) = o _ refl

-- an insertion is apart: it may find no slot
abbrev pub Plain : View → Type 0
Plain (views.insertion strand side flags word) = ⊥
Plain (views.access strand kind selector size address) = Unit {0}
Plain other = Unit {0}
