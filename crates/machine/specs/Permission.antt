-- Document 02, U6: who may send which command (number 16). A strand's mode says it; an invalidation names no strand, and goes by the stream's mark.
-- Assumes nothing.
use Rattle.std.specs.Prelude.{ℕ, Bool, true, false, cond, List, eqb, ltb, leb}
use Rattle.machine.specs.Registers.{mode}
use Rattle.machine.specs.declared.Command.{Command}
use Rattle.machine.specs.declared.Command.TheVariants as command

-- the registers that are open to mode 1: contexts, address mask, and from the TSB bases on to tag access
unfoldable pub guest_writable : ℕ → Bool
guest_writable number =
    cond (ltb number 1) false
    (cond (ltb number 3) true
    (cond (ltb number 5) false
    (cond (ltb number 6) true
    (cond (ltb number 8) false
    (ltb number 22)))))

-- the least mode for what is open to guests, and for what is not
abbrev pub least_mode : Bool → ℕ
least_mode guest = cond guest 1 2

-- hv, here and wherever a run's commands are taken: the caller marks the stream as the hypervisor's
unfoldable pub permitted : Bool → List ℕ → Command → Bool
permitted hv file (command.Write strand number value) = leb (least_mode (guest_writable number)) (mode file strand)
-- without a flag: virtual and unlocked
permitted hv file (command.Insert strand side flags word) = leb (least_mode (eqb flags 0)) (mode file strand)
permitted hv file (command.DemapPage strand side selector flags address) = leb (least_mode true) (mode file strand)
permitted hv file (command.DemapContext strand side selector) = leb (least_mode true) (mode file strand)
permitted hv file (command.DemapAll strand side) = leb (least_mode false) (mode file strand)
permitted hv file (command.Invalidate side) = hv
-- every mode
permitted hv file (command.Access strand kind selector size address) = true
permitted hv file (command.Read strand number) = true
permitted hv file (command.Pointers strand side) = leb (least_mode true) (mode file strand)
permitted hv file (command.Rate strand side) = leb (least_mode true) (mode file strand)
