-- `stream::run` meets its contract. A turn leaves the outcome as it is (`resume-turn`), and each way out of the loop has its own law.
-- Assumes nothing.
use Rattle.std.proofs.Common.{Ok, Err, Result}
use Prim.Native.Nat.{ℕ, ◌+◌, ◌*◌, ◌-◌, ◌≤◌, ◌<◌}
use mathlib.Core.Path.{◌≡◌, refl, ap, sym, ◌∙◌}
use mathlib.Core.Bool.{Bool, true}
use mathlib.Core.List.{List}
use native.Mathlib.Omega.{arith}
use borrow.Author.Rules.{rules}
use lib.ListN.{length}
use lib.Seq.{sets}
use Rattle.machine.specs.State.{State, counts, state_length, state_in, encode}
use Rattle.machine.specs.State as state
use Rattle.machine.specs.Step.{step}
use Rattle.machine.specs.Stream.{Outcome, answer_bytes, stop_number, decode_at, run_of}
use Rattle.machine.specs.declared.Answer.{Answer}
use Rattle.machine.specs.declared.Command.{Command}
use Rattle.machine.proofs.State.{sound-words, encode-state, sound-encode}
use Rattle.machine.proofs.Good.{step-sound}
use Rattle.machine.proofs.Runs.{decode-width, resume, resume-start, Over, resume-end, resume-stop, resume-full, resume-turn, run-unsound}
use Rattle.wire.specs.Wire.{stop_of, full_stop_of}
use Rattle.stream.proofs.run.Invariants.{Going}
use Rattle.stream.proofs.run.Goals as goal
use Rattle.machine.specs.declared.Stop.{Stop}

-- a run that ends here leaves the words as they are
over : {hv : Bool} {state₀ input output₀ words output : List ℕ} {at answered : ℕ} (k : ℕ) → Going hv state₀ input output₀ words output at answered
    → Over hv (state_in words) input output answered at k
    → ◌≡◌ {A = Outcome} (record { words = words; output = output; answered = answered; taken = at; stop = k }) (run_of hv counts state₀ input output₀)
over {words} k g o = (rw (encode-state counts words g.size) at (sym o)) ∙ g.rest

-- where there is no room a run ends, whatever stands there
full : (hv : Bool) (u : State) (input output : List ℕ) (answered at : ℕ) → at < length input → length output - answered * 24 < 24 → (d : Result (Command × ℕ) Stop) →
    decode_at input at ≡ d → Over hv u input output answered at (stop_number (full_stop_of d))
full hv u input output answered at h r (Err k) e = resume-stop hv u input output answered at h e
full hv u input output answered at h r (Ok (c, width)) e = resume-full hv u input output answered at h e r

-- a command answered leaves the outcome as it is
module _ {hv : Bool} {state₀ input output₀ words output : List ℕ} {at answered : ℕ} (g : Going hv state₀ input output₀ words output at answered)
    (c : Command) (words' : List ℕ) (e : words' ≡ encode (step hv (state_in words) c).state) where
  after : state_in words' ≡ (step hv (state_in words) c).state
  after = rw e (sound-encode counts _ (step-sound hv counts (state_in words) c g.sound))

  turn-sound : state.sound counts (state_in words') ≡ true
  turn-sound = rw after (step-sound hv counts (state_in words) c g.sound)

  turn : (width : ℕ) (a : Answer) (output' : List ℕ) → at < length input → decode_at input at ≡ Ok (c, width) → answered * 24 + 24 ≤ length output
      → a ≡ (step hv (state_in words) c).answer → output' ≡ sets output (answered * 24) (answer_bytes a)
      → resume hv (state_in words') input output' (answered + 1) (at + width) ≡ run_of hv counts state₀ input output₀
  turn width a output' h f r q o = rw (after, o, q) (sym (resume-turn _ _ _ _ _ _ h f r) ∙ g.rest)

-- what the arithmetic of a turn goes by: the width of the command that stands at the position
record Turn (input : List ℕ) (at width : ℕ) : Type 0 where
  some : 0 < width
  fits : at + width ≤ length input

within : (input : List ℕ) (at : ℕ) {c : Command} (width : ℕ) → decode_at input at ≡ Ok (c, width) → Turn input at width
within input at width found =
    let w = decode-width input at found in
    record { some = omega arith; fits = omega arith }

-- ---- an unsound state

pub returns-in_default : goal.returns-in_default
returns-in_default c = rw c.stop_number.ensures (sym (run-unsound _ counts _ _ _ c.in_default.ensures.cases))

-- ---- the loop

pub loop-at-init : goal.loop-at-init
loop-at-init c =
    let (h, same) = c.in-Some.ensures.cases in
    let w = sound-words counts _ h in
    record {
      inside = search rules;
      size = rw same w.1;
      sound = rw same w.0;
      room = refl;
      fits = search rules;
      rest = rw same (resume-start _ counts _ _ _ h);
    }

-- no room: numbers 2 and 3, and 4

pub returns-then-output-answered : goal.returns-then-output-answered
returns-then-output-answered c =
    rw (c.stop_number-then-output-answered.ensures, c.stop_without_room.ensures) (over _ c.loop-at.invariant (full _ _ _ _ _ _ (omega arith) (omega arith) _ refl))

-- numbers 2 and 3

pub returns-in_default-decoded : goal.returns-in_default-decoded
returns-in_default-decoded c =
    let found = sym c.command_at-decoded.ensures ∙ c.in_default-decoded.is in
    let k : c.stop_number-in_default-decoded.result ≡ stop_number c.in_default-decoded.field-0 = c.stop_number-in_default-decoded.ensures ∙ ap stop_of c.in_default-decoded.is in
    rw k (over _ c.loop-at.invariant (resume-stop _ _ _ _ _ _ (omega arith) found))

-- a command answered

pub overflow_add-at : goal.overflow_add-at
overflow_add-at c =
    let w = within c.args.input.now c.loop-at.at c.in-Ok.width (sym c.command_at-decoded.ensures ∙ c.in-Ok.is) in
    omega (arith, w.fits)

pub loop-at-smaller : goal.loop-at-smaller
loop-at-smaller c =
    let w = within c.args.input.now c.loop-at.at c.in-Ok.width (sym c.command_at-decoded.ensures ∙ c.in-Ok.is) in
    omega (arith, w.some, w.fits)

pub loop-at-preserved : goal.loop-at-preserved
loop-at-preserved c =
    let put = c.put_answer in
    let did = c.execute-answer in
    let i = c.loop-at.invariant in
    let found = sym c.command_at-decoded.ensures ∙ c.in-Ok.is in
    let w = within c.args.input.now c.loop-at.at c.in-Ok.width found in
    record {
      inside = w.fits;
      size = did.array_long;
      sound = turn-sound i _ _ did.ensures.words;
      room = put.auto.output ∙ i.room;
      fits = omega (arith, put.auto.output);
      rest = turn i _ _ did.ensures.words _ _ _ (omega arith) found (omega arith) did.ensures.answer put.ensures;
    }

-- the end of the input

pub returns : goal.returns
returns c = over 0 c.loop-at.invariant (resume-end _ _ _ _ _ _ (omega arith))
