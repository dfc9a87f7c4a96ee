-- Demand 2, where the ledger's answers do not show it: the fields of an entry word, and the bound of physical addresses.
-- Assumes nothing.
use Rattle.std.specs.Prelude.{ℕ, ◌+◌, ◌^◌, ◌<◌, ◌≡◌, Bool, true, cond, ltb}
use Rattle.machine.specs.Words.{unpacked, packed, fields}
use Rattle.machine.specs.State.{Counts, State, sound}
use Rattle.machine.specs.Step.{step}
use Rattle.machine.specs.Ledger.{bit}
use Rattle.machine.specs.declared.Tte.{Tte}
use Rattle.machine.specs.declared.Command.{Command}
use Rattle.machine.specs.declared.Translation.{Translation}
use Rattle.machine.specs.declared.Answer.TheVariants as answer

-- a field is the n bits of a word from bit k up, by the ledger's bits, and has no other
abbrev pub IsBits : ℕ → ℕ → ℕ → ℕ → Type 0
IsBits word k n field = (i : ℕ) → bit i field ≡ cond (ltb i n) (bit (k + i) word) 0

-- the n bits of a word from bit k up are a field's low ones; what does not fit is dropped
abbrev pub HasBits : ℕ → ℕ → ℕ → ℕ → Type 0
HasBits word k n field = (i : ℕ) → i < n → bit (k + i) word ≡ bit i field

-- "Entry word (sun4v)": where each field stands, by what stands there
pub record Fields (Is : ℕ → ℕ → ℕ → Type 0) (t : Tte) : Type 0 where
  pub v : Is 63 1 t.v
  pub nfo : Is 62 1 t.nfo
  pub soft2 : Is 56 6 t.soft2
  pub address : Is 13 43 t.address
  pub ie : Is 12 1 t.ie
  pub e : Is 11 1 t.e
  pub cp : Is 10 1 t.cp
  pub cv : Is 9 1 t.cv
  pub p : Is 8 1 t.p
  pub ep : Is 7 1 t.ep
  pub w : Is 6 1 t.w
  pub soft : Is 4 2 t.soft
  pub size : Is 0 4 t.size

pub record Demand2 : Type 0 where
  pub unpacks : (w : ℕ) → Fields (IsBits w) (unpacked w)
  -- of all fields, also those that do not fit
  pub packs : (t : Tte) → Fields (HasBits (packed t)) t × (packed t < 2 ^ 64)
  -- fields below their widths are all that coming back asks for
  pub fit : (t : Tte) → Fields (λ k n field. field < 2 ^ n) t → fields t ≡ true
  -- a word unpacked and packed again is that word
  pub back : (w : ℕ) → w < 2 ^ 64 → packed (unpacked w) ≡ w
  -- the address of a hit and of a bypass
  pub physical : (hv : Bool) (n : Counts) (u : State) (c : Command) (t : Translation) → sound n u ≡ true → (step hv u c).answer ≡ answer.Physical t
      → t.address.0 < 2 ^ 40
