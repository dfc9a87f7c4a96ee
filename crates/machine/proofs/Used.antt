-- What an access does to the slots, and that a new entry has its used bit. Assumes nothing.
use Rattle.std.proofs.Common.{Ok, Err, Result}
use Prim.Native.Nat.{ℕ}
use mathlib.Core.Path.{◌≡◌, refl}
use mathlib.Core.Bool.{Bool, true, false}
use mathlib.Core.List.{List}
use lib.ListN.{get_or}
use Rattle.machine.specs.Slots.{no_slot, is_used, hit, set_used}
use Rattle.machine.specs.Insertion.{entry_of}
use Rattle.machine.specs.State.{State, side_of, with_side}
use Rattle.machine.specs.Access.{judge, translated_by, settle_judged, settle_looked}
use Rattle.machine.specs.declared.Slot.{Slot}
use Rattle.machine.specs.declared.Key.{Key}
use Rattle.machine.specs.declared.Access.{Access}
use Rattle.machine.specs.declared.Reach.{Reach}
use Rattle.machine.specs.declared.Translation.{Translation}
use Rattle.machine.specs.declared.Trap.{Trap}

-- two states with the same slots
abbrev pub SameSlots : State → State → Type 0
SameSlots u v = (u.itlb ≡ v.itlb) × (u.dtlb ≡ v.dtlb)

-- no judgement touches the slots
judged-slots : (u : State) (a : Access) (p : Translation) (j : Result (Unit {0}) Trap) → SameSlots (settle_judged u a p j).state u
judged-slots u a p (Err t) = (refl, refl)
judged-slots u a p (Ok _) = (refl, refl)

-- the found entry's used bit is set, whether it ends in a fault or not
pub hit-slots : (u : State) (a : Access) (i : ℕ) (r : Reach) →
    let side : ℕ = a.side in
    SameSlots (settle_looked u a (hit i r)).state (with_side u side (set_used i (side_of u side)))
hit-slots u a i r =
    let s : List Slot = side_of u a.side in
    let word : ℕ = (get_or s i no_slot).word in
    judged-slots (with_side u a.side (set_used i s)) a (translated_by word r) (judge u.registers a word)

-- a new entry's is
pub new-used : (key : Key) (locked : Bool) (word : ℕ) → is_used (entry_of key locked word) ≡ true
unfolding entry_of
new-used key true word = refl
new-used key false word = refl
