-- The state that a callee left, read back, and what a trap writes.
-- Assumes nothing.
use Rattle.std.proofs.Common.{Some, None, Option}
use Prim.Native.Nat.{ℕ}
use mathlib.Core.Path.{◌≡◌, ◌∙◌}
use mathlib.Core.List.{List}
use lib.ListN.{length, length-set}
use Rattle.machine.specs.Registers.{register_words, with_register}
use Rattle.machine.specs.State.{counts, State, state_in, encode, with_registers}
use Rattle.machine.specs.Access.{trap_registers}
use Rattle.machine.specs.declared.Access.{Access}
use Rattle.machine.specs.declared.Trap.{Trap}
use Rattle.machine.proofs.State.{Sized, state-encode}
use Rattle.state.proofs.Parts.{sized-with_registers}

-- words that hold a state of the right size give it back
pub left_back : {u : State} {left : List ℕ} → Sized counts u → left ≡ encode u → state_in left ≡ u
left_back {u} z e = rw e (state-encode counts u z)

module _ (u : State) (z : Sized counts u) (file : List ℕ) (l : length file ≡ register_words) {left : List ℕ} (e : left ≡ encode (with_registers u file)) where
  pub registers-back : state_in left ≡ with_registers u file
  registers-back = left_back (sized-with_registers counts u z file l) e

  -- one more register written
  pub written-more : {next : List ℕ} (strand number value : ℕ)
      → next ≡ encode (with_registers (state_in left) (with_register (state_in left).registers strand number value))
      → next ≡ encode (with_registers u (with_register file strand number value))
  written-more strand number value f = f ∙ rw registers-back

pub trap-length : (file : List ℕ) (a : Access) (t : Trap) (tag : Option ℕ) → length (trap_registers file a t tag) ≡ length file
unfolding trap_registers
trap-length file a t None = simp length-set
trap-length file a t (Some context) = simp length-set
