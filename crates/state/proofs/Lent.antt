-- The parts of a state that are lent: a side as `state[a..a + 256]`, and all parts for soundness. Assumes nothing.
use Rattle.std.proofs.Common.{None, Some, Option, MatchOption, ◌≢◌, true, false}
use Rattle.std.specs.Array.{IsWholeChunk}
use Prim.Native.Nat.{ℕ, ◌+◌, ◌-◌, ◌*◌, ◌<◌}
use mathlib.Core.Path.{◌≡◌, ◌∙◌}
use mathlib.Core.Bool.{◌&&◌}
use mathlib.Core.List.{List, ◌++◌}
use native.Mathlib.Omega.{arith}
use lib.Dec.{eqb}
use lib.ListN.{length, take, drop}
use Rattle.laws.proofs.Bools.{by-test}
use Rattle.machine.specs.Slots.{slots_of, words_of}
use Rattle.machine.specs.Sound.{side_sound}
use Rattle.machine.specs.Registers.{registers_sound}
use Rattle.machine.specs.Record.{records_sound}
use Rattle.machine.specs.State.{counts, slot_count, state_of, state_in, state_length, side_of, words_sound}
use Rattle.machine.specs.declared.Slot.{Slot}
use Rattle.machine.proofs.State.{sound-words}
use Rattle.state.specs.Calls.{on_side}
use Rattle.state.proofs.Parts.{sized-words, sized-side, side-length, side-read, side-stored, sound-parts}

-- words of a state's length, as the type `State` has them
abbrev pub Lent : List ℕ → Type 0
Lent words = length words ≡ state_length

-- either side has 64 slots
pub side-slots : (words : List ℕ) → Lent words → (side : ℕ) → length (side_of (state_in words) side) ≡ 64
side-slots words l side =
    sized-side counts (state_in words) (sized-words counts words l) side ∙ by-test (eqb side 0) (λ e. rw e) (λ e. rw e)

abbrev part : List ℕ → ℕ → List ℕ
part words a = take (a + 256 - a) (drop a words)

-- a side of 64 slots from a on
pub record LentSide (words : List ℕ) (side a : ℕ) : Type 0 where
  pub count : length (part words a) ≡ 256
  pub slots : slots_of (part words a) ≡ side_of (state_in words) side
  -- the words once the part is back, with f done to its slots
  pub back : (f : List Slot → List Slot) {lent : List ℕ} → lent ≡ words_of (f (slots_of (part words a)))
      → take a words ++ (lent ++ drop (a + 256 - a) (drop a words)) ≡ on_side f side words

pub lent-side : (words : List ℕ) {side a : ℕ} → Lent words → side < 2 → a ≡ 128 + side * 256 → LentSide words side a
lent-side words {side} {a} l h start =
    let k : ℕ = a + 256 - a in
    let u = state_in words in
    let whole : k ≡ slot_count counts side * 4 = by-test (eqb side 0) (λ e. rw e (omega arith)) (λ e. rw e (omega arith)) in
    let slots : slots_of (take k (drop a words)) ≡ side_of u side = side-read counts words l side a k h start whole in
    record {
      count = side-length counts words l side a k h start whole ∙ omega (arith, whole);
      slots = slots;
      back = λ f e. rw (e, slots) (side-stored counts words l side a k h start whole (f (side_of u side)));
    }

pub lent-sound : (words : List ℕ) → Lent words → words_sound counts words
    ≡ (registers_sound (take 128 words)
    && (side_sound (slots_of (take 256 (drop 128 words)))
    && (side_sound (slots_of (take 256 (drop 384 words))) && records_sound (state_in words).records)))
unfolding state_of
lent-sound words l = sound-parts counts words l

-- sound words have the array's length, and so are one
pub sound-array : {B : Type 0} (words : List ℕ) (now : B → List ℕ) (o : Option B) → words_sound counts words ≡ true
    → MatchOption o (length words ≢ 776) (λ y. IsWholeChunk words (now y) 776)
    → MatchOption o (words_sound counts words ≡ false) (λ y. (words_sound counts words ≡ true) × (now y ≡ words))
sound-array words now None e h = absurd (h (sound-words counts words e).1)
sound-array words now (Some y) e h = (e, h.same)
