-- What registers hold that an access picks from, and what a trap's registers have room for: a byte of fault type, 13 bits of context.
-- Assumes nothing.
use Rattle.std.specs.Prelude.{ℕ, ◌<◌, ◌≡◌, true, List, Some, None, Ok, Err, Option, Result}
use Rattle.machine.specs.Registers.{registers_sound}
use Rattle.machine.specs.State.{state_in}
use Rattle.machine.specs.Access.{trap_fault}
use Rattle.machine.specs.declared.Trap.{Trap}
use Rattle.machine.specs.declared.Prepared.{Prepared}
use Rattle.machine.specs.declared.Prepared.TheVariants.{Stopped, Bypass, Lookup}

-- registers that hold what they may, and so contexts of 13 bits
abbrev pub RegistersFit : List ℕ → Type 0
RegistersFit words = registers_sound (state_in words).registers ≡ true

abbrev pub FaultFits : Trap → Type 0
FaultFits t = trap_fault t < 256

abbrev pub TagFits : Option ℕ → Type 0
TagFits None = Unit {0}
TagFits (Some context) = context < 8192

-- the trap that steps 1 to 4 take
abbrev pub PreparedFits : Prepared → Type 0
PreparedFits (Stopped t tag) = FaultFits t × TagFits tag
PreparedFits (Bypass p) = Unit {0}
PreparedFits Lookup = Unit {0}

-- the traps that steps 6 and 7 take
abbrev pub JudgedFits : Result (Unit {0}) Trap → Type 0
JudgedFits (Err t) = FaultFits t
JudgedFits (Ok _) = Unit {0}
