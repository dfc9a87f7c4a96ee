-- What the code that acts may rely on: the operands of a command that passed its questions, and an entry displaced from a sound side.
-- Assumes nothing.
use Rattle.std.proofs.Common.{Some, None, Ok, Err, Option, Result}
use mathlib.Core.Path.{◌≡◌}
use mathlib.Core.Bool.{Bool, true}
use mathlib.Core.List.{List}
use native.Mathlib.Omega.{arith}
use borrow.Author.Tests.{eqb-true, ltb-true}
use Rattle.laws.specs.Tests.{all_of}
use Rattle.laws.proofs.Bools.{and_left, and_right}
use Rattle.machine.specs.Slots.{is_live}
use Rattle.machine.specs.Insertion.{candidate, placed}
use Rattle.machine.specs.Sound.{slot_sound, side_sound}
use Rattle.machine.specs.Registers.{known, writable}
use Rattle.machine.specs.State.{State}
use Rattle.machine.specs.Questions.{asked, asked_insertion, verdict}
use Rattle.machine.specs.declared.Slot.{Slot}
use Rattle.machine.specs.declared.Command.{Command}
use Rattle.machine.specs.declared.Command.TheVariants as command
use Rattle.machine.proofs.Insertion.{PlacedSays, placed-says}
use Rattle.machine.proofs.Sound.{live-parts, sound-slot}
use Rattle.machine.proofs.Sides.{aligned}
use Rattle.machine.proofs.Commands.{range-fits}
use Rattle.machine.proofs.State.{passed-asked, known-below, writable-below}
use Rattle.mmu.specs.Fits.{PlaceFits, OperandsFit}
use Rattle.machine.specs.declared.NoSlot.{NoSlot}

ruleset conj = (and_left, and_right, eqb-true, ltb-true)

pub passed-fit : (hv : Bool) (u : State) (c : Command) → verdict hv u c ≡ Ok tt → OperandsFit c
unfolding asked asked_insertion all_of
passed-fit hv u (command.Write strand number value) v =
    let q = passed-asked hv u (command.Write strand number value) v in
    let w : writable number ≡ true = search conj in
    (search conj, omega (arith, writable-below number w))
passed-fit hv u (command.Insert strand side flags word) v =
    let q = passed-asked hv u (command.Insert strand side flags word) v in
    (search conj, search conj)
passed-fit hv u (command.DemapPage strand side selector flags address) v =
    let q = passed-asked hv u (command.DemapPage strand side selector flags address) v in
    (search conj, search conj)
passed-fit hv u (command.DemapContext strand side selector) v =
    let q = passed-asked hv u (command.DemapContext strand side selector) v in
    (search conj, search conj)
passed-fit hv u (command.DemapAll strand side) v =
    let q = passed-asked hv u (command.DemapAll strand side) v in
    (search conj, search conj)
passed-fit hv u (command.Invalidate side) v =
    let q = passed-asked hv u (command.Invalidate side) v in
    search conj
passed-fit hv u (command.Access strand kind selector size address) v =
    let q = passed-asked hv u (command.Access strand kind selector size address) v in
    (search conj, search conj)
passed-fit hv u (command.Read strand number) v =
    let q = passed-asked hv u (command.Read strand number) v in
    let k : known number ≡ true = search conj in
    (search conj, omega (arith, known-below number k))
passed-fit hv u (command.Pointers strand side) v =
    let q = passed-asked hv u (command.Pointers strand side) v in
    (search conj, search conj)
passed-fit hv u (command.Rate strand side) v =
    let q = passed-asked hv u (command.Rate strand side) v in
    (search conj, search conj)

-- a page starts at a multiple of 2^13, so its context fits beside it
pub place-fits : (new : Slot) (s : List Slot) → side_sound s ≡ true → PlaceFits (placed candidate new s)
place-fits new s h = go (placed candidate new s) (placed-says candidate new s)
  where
    go : (r : Result (Option Slot) NoSlot) → PlacedSays candidate new s r → PlaceFits r
    go (Ok None) w = tt
    go (Err _) w = tt
    go (Ok (Some x)) w =
        let k : slot_sound x ≡ true = rw w.there at (sound-slot s w.index h) in
        let l : is_live x ≡ true = and_left _ _ w.allowed in
        let p = live-parts x k l in
        let (q, a) = aligned x k l in
        omega (arith, range-fits x.page p.range, p.context)
