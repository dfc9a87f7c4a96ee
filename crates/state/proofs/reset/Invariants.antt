use Prim.Native.Nat.{ℕ, zero, suc, ◌+◌, ◌*◌}
use mathlib.Core.List.{List}
use mathlib.Core.Path.{◌≡◌}
use lib.ListN.{replicate, set}
use Rattle.state.proofs.reset.Given as goal

-- the words with the mode of the first strands set
abbrev pub with_modes : ℕ → List ℕ
with_modes zero = replicate 776 0
with_modes (suc n) = set (with_modes n) (n * 32 + 3) 2

abbrev pub invariant-loop-strand : goal.invariant-loop-strand
invariant-loop-strand l = l.state ≡ with_modes l.strand
