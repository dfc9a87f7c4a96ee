-- Document 01, "Questions before a command acts": 5 to 13, as an ordered list for each command; with 15 and 16 of document 02, U5 and U6.
-- Assumes nothing.
use Rattle.std.specs.Prelude.{ℕ, ◌%◌, ◌/◌, Bool, true, false, not, cond, ◌&&◌, ◌||◌, List, [], ◌∷◌, eqb, ltb, get_or, Ok, Err, Result}
use Rattle.machine.specs.Pages.{in_range, untranslated}
use Rattle.machine.specs.Words.{word_insertable}
use Rattle.machine.specs.Registers.{partition, mode, tag_access, tag_address, tag_context, known, writable, allowed}
use Rattle.machine.specs.Permission.{permitted}
use Rattle.machine.specs.Insertion.{entry_of, candidate, has_slot}
use Rattle.machine.specs.Record.{Records, record_of, kept}
use Rattle.machine.specs.State.{State, side_of}
use Rattle.machine.specs.declared.VirtualAddress.{VirtualAddress}
use Rattle.machine.specs.declared.Slot.{Slot}
use Rattle.machine.specs.declared.Key.{Key}
use Rattle.machine.specs.declared.Key.TheVariants.{Virtual, Real}
use Rattle.machine.specs.declared.Command.{Command}
use Rattle.machine.specs.declared.Command.TheVariants as command
use Rattle.machine.specs.declared.Refusal.{Refusal}
use Rattle.machine.specs.declared.Refusal.TheVariants as refusal

-- the document's number of a refusal
abbrev pub refusal_number : Refusal → ℕ
refusal_number refusal.Strand = 5
refusal_number refusal.Side = 6
refusal_number refusal.Selector = 7
refusal_number refusal.Operand = 8
refusal_number refusal.Register = 9
refusal_number refusal.Value = 10
refusal_number refusal.Address = 11
refusal_number refusal.Word = 12
refusal_number refusal.NoSlot = 13
refusal_number refusal.Table = 14
refusal_number refusal.NoLookup = 15
refusal_number refusal.Permission = 16

-- ---- what the questions speak of
-- the side of an access: a fetch is kind 0
abbrev pub kind_side : ℕ → ℕ
kind_side kind = cond (eqb kind 0) 0 1

-- flags of an insertion: 1 real, 2 locked; of a demap page: 1 real
abbrev pub flag_real : ℕ → Bool
flag_real flags = eqb (flags % 2) 1

abbrev pub flag_locked : ℕ → Bool
flag_locked flags = eqb (flags / 2 % 2) 1

abbrev pub key_of : Bool → ℕ → ℕ → VirtualAddress → Key
key_of true partition context address = Real partition (untranslated address)
key_of false partition context address = Virtual partition context address

-- the entry of an insertion: by the strand's partition and the side's tag access; its flags say whether it is real and locked
abbrev pub insertion : State → ℕ → ℕ → ℕ → ℕ → Slot
insertion u strand side flags word =
    let tag : ℕ = tag_access u.registers strand side in
    entry_of (key_of (flag_real flags) (partition u.registers strand) (tag_context tag) (tag_address tag)) (flag_locked flags) word

-- number 7: one of three selectors; the instruction side has no secondary context
abbrev pub selector_fits : ℕ → ℕ → Bool
selector_fits side selector = ltb selector 3 && not (eqb side 0 && eqb selector 1)

-- number 7: a user's fetch by the nucleus context
abbrev pub nucleus_fetch : List ℕ → ℕ → ℕ → ℕ → Bool
nucleus_fetch file strand kind selector = eqb kind 0 && (eqb selector 2 && eqb (mode file strand) 0)

-- number 8: 1, 2, 4 or 8 bytes; a fetch takes 4
abbrev pub size_fits : ℕ → ℕ → Bool
size_fits kind size = ltb size 4 && (not (eqb kind 0) || eqb size 2)

-- number 15: a lookup is kept
abbrev pub has_lookups : Records → ℕ → Bool
has_lookups x r = not (eqb (kept (get_or x.seen r 0)) 0)

-- ---- the questions
pub record Question : Type 0 where
  pub refusal : Refusal
  pub fine : Bool

abbrev pub question : Refusal → Bool → Question
question r b = record { refusal = r; fine = b }

-- 11 to 13, which every insertion ends in: that of a command, and that of a served miss (document 02, U1)
unfoldable pub asked_insertion : State → ℕ → ℕ → ℕ → ℕ → List Question
asked_insertion u strand side flags word =
    question refusal.Address (in_range (tag_address (tag_access u.registers strand side)).0)
    ∷ question refusal.Word (word_insertable word)
    ∷ question refusal.NoSlot (has_slot candidate (insertion u strand side flags word) (side_of u side))
    ∷ []

-- 16 stands behind 10 and before 11 (document 02, U6); an access and a read are open to every mode, and are not asked it
unfoldable pub asked : Bool → State → Command → List Question
asked hv u (command.Write strand number value) =
    question refusal.Strand (ltb strand 4)
    ∷ question refusal.Register (writable number)
    ∷ question refusal.Value (allowed number value)
    ∷ question refusal.Permission (permitted hv u.registers (command.Write strand number value))
    ∷ []
asked hv u (command.Insert strand side flags word) =
    question refusal.Strand (ltb strand 4)
    ∷ question refusal.Side (ltb side 2)
    ∷ question refusal.Operand (ltb flags 4)
    ∷ question refusal.Permission (permitted hv u.registers (command.Insert strand side flags word))
    ∷ asked_insertion u strand side flags word
asked hv u (command.DemapPage strand side selector flags address) =
    question refusal.Strand (ltb strand 4)
    ∷ question refusal.Side (ltb side 2)
    ∷ question refusal.Selector (selector_fits side selector)
    ∷ question refusal.Operand (ltb flags 2)
    ∷ question refusal.Permission (permitted hv u.registers (command.DemapPage strand side selector flags address))
    ∷ question refusal.Address (in_range address.0)
    ∷ []
asked hv u (command.DemapContext strand side selector) =
    question refusal.Strand (ltb strand 4)
    ∷ question refusal.Side (ltb side 2)
    ∷ question refusal.Selector (selector_fits side selector)
    ∷ question refusal.Permission (permitted hv u.registers (command.DemapContext strand side selector))
    ∷ []
asked hv u (command.DemapAll strand side) =
    question refusal.Strand (ltb strand 4)
    ∷ question refusal.Side (ltb side 2)
    ∷ question refusal.Permission (permitted hv u.registers (command.DemapAll strand side))
    ∷ []
asked hv u (command.Invalidate side) =
    question refusal.Side (ltb side 2) ∷ question refusal.Permission (permitted hv u.registers (command.Invalidate side)) ∷ []
asked hv u (command.Access strand kind selector size address) =
    question refusal.Strand (ltb strand 4)
    ∷ question refusal.Side (ltb kind 5)
    ∷ question refusal.Selector (selector_fits (kind_side kind) selector && not (nucleus_fetch u.registers strand kind selector))
    ∷ question refusal.Operand (size_fits kind size)
    ∷ []
asked hv u (command.Read strand number) = question refusal.Strand (ltb strand 4) ∷ question refusal.Register (known number) ∷ []
asked hv u (command.Pointers strand side) =
    question refusal.Strand (ltb strand 4)
    ∷ question refusal.Side (ltb side 2)
    ∷ question refusal.Permission (permitted hv u.registers (command.Pointers strand side))
    ∷ []
asked hv u (command.Rate strand side) =
    question refusal.Strand (ltb strand 4)
    ∷ question refusal.Side (ltb side 2)
    ∷ question refusal.Permission (permitted hv u.registers (command.Rate strand side))
    ∷ question refusal.NoLookup (has_lookups u.records (record_of strand side))
    ∷ []

-- the first "no" refuses
unfoldable pub ask : List Question → Result (Unit {0}) Refusal
ask [] = Ok tt
ask (q ∷ qs) = cond q.fine (ask qs) (Err q.refusal)

unfoldable pub verdict : Bool → State → Command → Result (Unit {0}) Refusal
verdict hv u c = ask (asked hv u c)
