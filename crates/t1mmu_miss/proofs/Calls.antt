-- From what `miss_handler` ensures to what the calls promise: the theorems of `machine`, put to one call. Assumes nothing.
use Prim.Native.Nat.{ℕ}
use mathlib.Core.Path.{◌≡◌, ap, ◌∙◌}
use mathlib.Core.List.{List}
use Rattle.machine.specs.State.{counts}
use Rattle.machine.specs.Stream.{Bytes, answer_bytes}
use Rattle.machine.specs.Serve.{part_of, served_of}
use Rattle.machine.specs.Places.{slots}
use Rattle.machine.specs.Reference.{ServeTold, PartTold, Told}
use Rattle.machine.specs.Demand3.{Demand3}
use Rattle.machine.specs.declared.Part.{Part}
use Rattle.machine.specs.declared.Answer.{Answer}
use Rattle.machine.proofs.Demand3.{demand3}
use Rattle.machine.proofs.Reference.{sold}

-- a part that is the unit's
pub part-call : (words : List ℕ) (strand side : ℕ) (zero other : Bytes) (r : Part) → r ≡ part_of counts words strand side zero other
    → PartTold slots words strand side zero other r × (r ≡ part_of counts words strand side zero other)
part-call words strand side zero other r e = (rw e (sold.part words strand side zero other), e)

-- a served miss that comes to the unit's words and answer
pub serve-call : (words : List ℕ) (strand side : ℕ) (zero other : Bytes) (left : List ℕ) (given : Answer) (b : Bytes)
    → left ≡ (served_of counts words strand side zero other).words → given ≡ (served_of counts words strand side zero other).answer → b ≡ answer_bytes given
    → ServeTold slots words strand side zero other left b
    × ((left ≡ (served_of counts words strand side zero other).words)
    × ((b ≡ answer_bytes (served_of counts words strand side zero other).answer) × (Told counts slots × Demand3 counts)))
serve-call words strand side zero other left given b e f g =
    let bytes : b ≡ answer_bytes (served_of counts words strand side zero other).answer = g ∙ ap answer_bytes f in
    (rw (e, bytes) (sold.serve words strand side zero other), (e, (bytes, (sold, demand3 counts))))
