-- From what the crates below ensure to what the calls promise: the theorems of `machine`, put to one call. Assumes nothing.
use Prim.Native.Nat.{ℕ}
use mathlib.Core.Path.{◌≡◌, ap, sym, subst}
use mathlib.Core.Bool.{Bool, true}
use mathlib.Core.List.{List}
use Rattle.machine.specs.State.{counts, reset_of, reset_number}
use Rattle.machine.specs.Stream.{Bytes, Outcome, outcome, run_of}
use Rattle.machine.specs.Words.{unpacked, packed, fields}
use Rattle.machine.specs.Places.{slots}
use Rattle.machine.specs.Reference.{RunTold, ResetTold, returned, Told}
use Rattle.machine.specs.Demand2.{IsBits, HasBits, Fields}
use Rattle.machine.specs.Demand3.{Demand3}
use Rattle.machine.specs.declared.Report.{Report}
use Rattle.machine.specs.declared.Tte.{Tte}
use Rattle.machine.proofs.Demand2.{demand2}
use Rattle.machine.proofs.Demand3.{demand3}
use Rattle.machine.proofs.Reference.{sold}
use Rattle.t1mmu.specs.Equal.{Equal}

-- a run that comes to the unit's outcome
pub run_call : (hv : Bool) (words : List ℕ) (input output : Bytes) (left : List ℕ) (written : Bytes) (r : Report)
    → outcome left written r ≡ run_of hv counts words input output
    → RunTold hv slots words input output left written r × (Equal (run_of hv counts words input output) left written r × (Told counts slots × Demand3 counts))
run_call hv words input output left written r e =
    let equal : Equal (run_of hv counts words input output) left written r = record {
      words = ap (λ (o : Outcome). o.words) e;
      bytes = ap (λ (o : Outcome). o.output) e;
      answered = ap (λ (o : Outcome). o.answered) e;
      taken = ap (λ (o : Outcome). o.taken) e;
      stop = ap (λ (o : Outcome). o.stop) e;
    } in
    let as-told : RunTold hv slots words input output left written r =
    subst (λ (o : Outcome). RunTold hv slots words input output o.words o.output (returned o)) (sym e) (sold.run hv words input output) in
    (as-told, (equal, (sold, demand3 counts)))

-- a reset that comes to the unit's
pub reset-call : (words left : List ℕ) (number : ℕ) → left ≡ reset_of counts words → number ≡ reset_number counts words
    → (left ≡ reset_of counts words) × ((number ≡ reset_number counts words) × ResetTold slots words left number)
reset-call words left number e f = (e, (f, rw (e, f) (sold.reset words)))

-- the fields of a word, and the word of fields
pub unpack-call : (word : ℕ) (r : Tte) → r ≡ unpacked word → packed r ≡ word → (r ≡ unpacked word) × ((packed r ≡ word) × Fields (IsBits word) r)
unpack-call word r e f = (e, (f, rw e (demand2.unpacks word)))

pub pack-call : (t : Tte) (r : ℕ) → r ≡ packed t → (fields t ≡ true → unpacked r ≡ t)
    → (r ≡ packed t) × ((fields t ≡ true → unpacked r ≡ t) × Fields (HasBits r) t)
pack-call t r e f = (e, (f, rw e (demand2.packs t).0))
