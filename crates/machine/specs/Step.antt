-- One command of the unit, from a stream with or without the hypervisor's mark: its questions, what it does to the state, and what it answers.
-- Assumes nothing.
use Rattle.std.specs.Prelude.{ℕ, ◌+◌, Bool, Some, None, Ok, Err, Option, Result}
use Rattle.laws.specs.Tests.{count}
use Rattle.machine.specs.Slots.{partition_of, is_real, context_of}
use Rattle.machine.specs.Registers.{register, with_register, partition, selected}
use Rattle.machine.specs.Tsb.{pointer}
use Rattle.machine.specs.Record.{record_of, miss_rate}
use Rattle.machine.specs.Insertion.{removed, removes, candidate, inserted, placed}
use Rattle.machine.specs.State.{State, side_of, with_side, with_registers}
use Rattle.machine.specs.Questions.{flag_real, key_of, insertion, asked_insertion, ask, verdict}
use Rattle.machine.specs.Access.{Stepped, stepped, access_of, access_to}
use Rattle.machine.specs.declared.Slot.{Slot}
use Rattle.machine.specs.declared.Removal.{Removal}
use Rattle.machine.specs.declared.Removal.TheVariants as removal
use Rattle.machine.specs.declared.Displaced.{Displaced}
use Rattle.machine.specs.declared.Command.{Command}
use Rattle.machine.specs.declared.Command.TheVariants as command
use Rattle.machine.specs.declared.Refusal.TheVariants as refusal
use Rattle.machine.specs.declared.Answer.{Answer}
use Rattle.machine.specs.declared.Answer.TheVariants as answer
use Rattle.machine.specs.declared.Refusal.{Refusal}
use Rattle.machine.specs.declared.NoSlot.{NoSlot}

-- what an answer of kind 4 says of the entry; page address and context are one value, as in tag access
abbrev pub displaced_of : Slot → Displaced
displaced_of x = record { partition = partition_of x; real = is_real x; place = x.page + context_of x; word = x.word }

-- an insertion's answer
abbrev pub placed_answer : Result (Option Slot) NoSlot → Answer
placed_answer (Ok None) = answer.Done 0
placed_answer (Ok (Some x)) = answer.Displaced (displaced_of x)
placed_answer (Err _) = answer.Refused refusal.NoSlot

-- a demap answers the count removed
abbrev pub demap : State → ℕ → Removal → Stepped
demap u side which = stepped (with_side u side (removed (removes which) (side_of u side))) (answer.Done (count (removes which) (side_of u side)))

-- ---- what a command does that no question refused
unfoldable pub act : State → Command → Stepped
act u (command.Write strand number value) = stepped (with_registers u (with_register u.registers strand number value)) (answer.Done 0)
act u (command.Insert strand side flags word) =
    let new : Slot = insertion u strand side flags word in
    stepped (with_side u side (inserted candidate new (side_of u side))) (placed_answer (placed candidate new (side_of u side)))
act u (command.DemapPage strand side selector flags address) =
    demap u side (removal.Page (key_of (flag_real flags) (partition u.registers strand) (selected u.registers strand selector) address))
act u (command.DemapContext strand side selector) =
    demap u side (removal.Context (partition u.registers strand) (selected u.registers strand selector))
act u (command.DemapAll strand side) = demap u side (removal.Unlocked (partition u.registers strand))
act u (command.Invalidate side) = stepped (with_side u side (removed (removes removal.Everything) (side_of u side))) (answer.Done 0)
act u (command.Access strand kind selector size address) =
    access_to u (access_of u.registers strand kind selector size address)
act u (command.Read strand number) = stepped u (answer.Read (register u.registers strand number) 0)
act u (command.Pointers strand side) = stepped u (answer.Read (pointer u.registers strand side 0) (pointer u.registers strand side 1))
act u (command.Rate strand side) = stepped u (answer.Read (miss_rate u.records (record_of strand side)) 0)

-- a command that a question refused leaves the state
abbrev pub step_by : Result (Unit {0}) Refusal → State → Command → Stepped
step_by (Ok _) u c = act u c
step_by (Err r) u c = stepped u (answer.Refused r)

unfoldable pub step : Bool → State → Command → Stepped
step hv u c = step_by (verdict hv u c) u c

-- an insertion once 11 is next to be asked
unfoldable pub insert_step : State → ℕ → ℕ → ℕ → ℕ → Stepped
insert_step u strand side flags word = step_by (ask (asked_insertion u strand side flags word)) u (command.Insert strand side flags word)
