-- Laws of a run: what it takes of its bytes and why it ends, what it leaves, and the run turn by turn. They hold of any state.
-- Assumes nothing.
use Rattle.std.proofs.Common.{Ok, Err, Result}
use Prim.Native.Nat.{ℕ, zero, suc, ◌+◌, ◌*◌, ◌-◌, ◌≤◌, ◌<◌}
use mathlib.Core.Path.{◌≡◌, refl, ap, subst, ◌∙◌}
use mathlib.Core.Bool.{Bool, true, false, cond}
use mathlib.Core.List.{List, ◌++◌}
use native.Mathlib.Nat.{zero-add, add-zero}
use native.Mathlib.Omega.{arith}
use borrow.Author.Tests.{eqb-false, ltb-true, ltb-false, lt-ltb, le-ltb}
use lib.Dec.{T, eqb, leb, ltb, lit≤}
use lib.ListN.{length, take, drop}
use lib.Seq.{sets, length-sets}
use Rattle.laws.proofs.Bools.{by-test}
use Rattle.laws.proofs.Stores.{sets-append, take-sets, drop-sets}
use Rattle.machine.specs.State.{Counts, State, state_of, encode, words_sound}
use Rattle.machine.specs.Step.{step}
use Rattle.machine.specs.Stream.{Bytes, Taken, Outcome, byte, width_of, decode_at, answer_bytes, ended, more, stop_number}
use Rattle.machine.specs.Stream.{takes_one, takes, taken_of, after, answers_bytes, finish, run_of}
use Rattle.machine.specs.declared.Command.{Command}
use Rattle.machine.proofs.Bytes.{answer-length, answers-length}
use Rattle.machine.specs.declared.Stop.{Stop}

-- ---- what is decoded
-- a command has two bytes at least: none of the widths is 1
pub two-or-none : (b : ℕ) → (width_of b ≡ 0 → ⊥) → 2 ≤ width_of b
unfolding width_of
two-or-none b =
    arm (eqb b 1) 11 tt (arm (eqb b 2) 12 tt (arm (eqb b 3) 13 tt (arm (eqb b 4) 4 tt (arm (eqb b 5) 3 tt
    (arm (eqb b 6) 2 tt (arm (eqb b 7) 13 tt (arm (eqb b 8) 3 tt (arm (eqb b 9) 3 tt (arm (eqb b 10) 3 tt (λ h. absurd (h refl)))))))))))
  where
    arm : (b : Bool) (width : ℕ) {other : ℕ} → T (leb 2 width) → ((other ≡ 0 → ⊥) → 2 ≤ other)
        → (cond b width other ≡ 0 → ⊥) → 2 ≤ cond b width other
    arm true width h o n = lit≤ h
    arm false width h o n = o n

-- .. and lies within the input
abbrev Inside : Bytes → ℕ → Result (Command × ℕ) Stop → Type 0
Inside s at (Ok (c, width)) = (2 ≤ width) × (at + width ≤ length s)
Inside s at (Err k) = Unit {0}

inside : (s : Bytes) (at : ℕ) → Inside s at (decode_at s at)
unfolding decode_at
inside s at =
    let w : ℕ = width_of (byte s at) in
    by-test (eqb w 0) (λ e. rw e tt) (λ e. by-test (ltb (length s - at) w)
    (λ f. rw (e, f) tt)
    (λ f.
    let two : 2 ≤ w = two-or-none (byte s at) (eqb-false w 0 e) in
    let h : w ≤ length s - at = ltb-false _ _ f in
    rw (e, f) (two, omega arith)))

pub decode-width : (s : Bytes) (at : ℕ) {c : Command} {width : ℕ} → decode_at s at ≡ Ok (c, width) → (2 ≤ width) × (at + width ≤ length s)
decode-width s at e = subst (Inside s at) e (inside s at)

-- ---- what a run takes
-- from a position, with room left: `takes` where its turns are enough
pub data Takes (input : Bytes) : ℕ → ℕ → Taken → Type 0 where
  at-end : {at room : ℕ} → length input ≤ at → Takes input at room (ended 0)
  at-stop : {at room : ℕ} {k : Stop} → at < length input → decode_at input at ≡ Err k → Takes input at room (ended (stop_number k))
  no_room : {at room width : ℕ} {c : Command} → at < length input → decode_at input at ≡ Ok (c, width) → room < 24 → Takes input at room (ended 4)
  one : {at room width : ℕ} {c : Command} {rest : Taken} → at < length input → decode_at input at ≡ Ok (c, width) → 24 ≤ room →
      Takes input (at + width) (room - 24) rest → Takes input at room (more c width rest)

module _ (input : Bytes) where
  takes_one_lem : (d : Result (Command × ℕ) Stop) {at room : ℕ} (rest : ℕ → Taken) → at < length input → decode_at input at ≡ d →
      ((width : ℕ) → 2 ≤ width → Takes input (at + width) (room - 24) (rest width)) → Takes input at room (takes_one d room rest)
  takes_one_lem (Err k) rest h e r = at-stop h e
  takes_one_lem (Ok (c, width)) {at} {room} rest h e r = by-test (ltb room 24)
      (λ f. rw f (no_room h e (ltb-true room 24 f)))
      (λ f. rw f (one h e (ltb-false room 24 f) (r width (decode-width input at e).0)))

  -- a turn takes a byte at least, so turns for the bytes left are enough
  takes_all : (turns : ℕ) {at room : ℕ} → length input ≤ at + turns → Takes input at room (takes turns input at room)
  unfolding takes
  takes_all zero {at} h = let l : length input ≤ at = omega arith in at-end l
  takes_all (suc turns) {at} {room} h = by-test (ltb at (length input))
      (λ f. rw f (takes_one_lem (decode_at input at) (λ width. takes turns input (at + width) (room - 24)) (ltb-true at (length input) f) refl
      (λ width w. takes_all turns (omega arith))))
      (λ f. rw f (at-end (ltb-false at (length input) f)))

  -- and more turns change nothing
  pub takes-only : (turns : ℕ) {at room : ℕ} {t : Taken} → Takes input at room t → length input ≤ at + turns → takes turns input at room ≡ t
  unfolding takes
  takes-only zero (at-end h) l = refl
  takes-only zero (at-stop h e) l = absurd (omega arith)
  takes-only zero (no_room h e f) l = absurd (omega arith)
  takes-only zero (one h e f r) l = absurd (omega arith)
  takes-only (suc turns) (at-end h) l = rw le-ltb
  takes-only (suc turns) (at-stop h e) l = rw (lt-ltb, e)
  takes-only (suc turns) (no_room h e f) l = rw (lt-ltb _ (length input) h, e, lt-ltb _ 24 f)
  takes-only (suc turns) {at} (one h e f r) l =
      rw (lt-ltb _ (length input) h, e, le-ltb _ 24 f, takes-only turns r (omega (arith, decode-width input at e)))

  -- the answers fit into the room
  fits : {at room : ℕ} {t : Taken} → Takes input at room t → length t.commands * 24 ≤ room
  fits (at-end h) = omega arith
  fits (at-stop h e) = omega arith
  fits (no_room h e f) = omega arith
  fits (one h e f r) = omega (arith, fits r)

  module _ (room : ℕ) where
    taken-all : Takes input 0 room (taken_of input room)
    taken-all = takes_all (length input) (omega arith)

    pub takes-room : length (taken_of input room).commands * 24 ≤ room
    takes-room = fits taken-all

abbrev pub commands_of : Bytes → Bytes → List Command
commands_of input output = (taken_of input (length output)).commands

-- ---- what a run from a sound state leaves
module _ (hv : Bool) (n : Counts) (words : List ℕ) (input output : Bytes) (h : words_sound n words ≡ true) where
  pub run-answered : (run_of hv n words input output).answered ≡ length (commands_of input output)
  unfolding run_of finish
  run-answered = rw (h, zero-add)

  pub run-taken : (run_of hv n words input output).taken ≡ (taken_of input (length output)).width
  unfolding run_of finish
  run-taken = rw (h, zero-add)

  pub run-stop : (run_of hv n words input output).stop ≡ (taken_of input (length output)).stop
  unfolding run_of finish
  run-stop = rw h

  pub run-words : (run_of hv n words input output).words ≡ encode (after hv (state_of n words) (commands_of input output))
  unfolding run_of finish
  run-words = rw h

  run-output : (run_of hv n words input output).output ≡ sets output 0 (answers_bytes hv (state_of n words) (commands_of input output))
  unfolding run_of finish
  run-output = rw h

  pub run-front : take ((run_of hv n words input output).answered * 24) (run_of hv n words input output).output ≡ answers_bytes hv (state_of n words)
      (commands_of input output)
  run-front =
      let cs : List Command = commands_of input output in
      rw (run-answered, run-output) (take-sets output _ _ (answers-length hv cs (state_of n words)) (takes-room input (length output)))

  -- "Unwritten output keeps its bytes."
  pub run_past : drop ((run_of hv n words input output).answered * 24) (run_of hv n words input output).output
      ≡ drop ((run_of hv n words input output).answered * 24) output
  run_past =
      let cs : List Command = commands_of input output in
      let u : State = state_of n words in
      rw (run-answered, run-output) (drop-sets output (answers_bytes hv u cs) _ (answers-length hv cs u) (takes-room input (length output)))

-- the answers fit into the output, whatever the state
pub run_room : (hv : Bool) (n : Counts) (words : List ℕ) (input output : Bytes) → (run_of hv n words input output).answered * 24 ≤ length output
unfolding run_of
run_room hv n words input output = by-test (words_sound n words)
    (λ h. rw (run-answered hv n words input output h) (takes-room input (length output)))
    (λ h. rw h (omega arith))

-- ---- a run, turn by turn
-- nothing more to take
finish-ended : (hv : Bool) (u : State) (output : Bytes) (n at k : ℕ) →
    finish hv u output n at (ended k) ≡ record { words = encode u; output = output; answered = n; taken = at; stop = k }
unfolding finish after answers_bytes
finish-ended hv u output n at k = rw (add-zero n, add-zero at)

-- one command more
finish-more : (hv : Bool) (u : State) (output : Bytes) (n at w : ℕ) (c : Command) (rest : Taken) →
    finish hv u output n at (more c w rest)
    ≡ finish hv (step hv u c).state (sets output (n * 24) (answer_bytes (step hv u c).answer)) (n + 1) (at + w) rest
unfolding finish after answers_bytes
finish-more hv u output n at w c rest =
    let a : Bytes = answer_bytes (step hv u c).answer in
    let b : Bytes = answers_bytes hv (step hv u c).state rest.commands in
    let e : n * 24 + length a ≡ (n + 1) * 24 = omega (arith, answer-length (step hv u c).answer) in
    let s : sets output (n * 24) (a ++ b) ≡ sets (sets output (n * 24) a) ((n + 1) * 24) b = sets-append a b output (n * 24) ∙ rw e in
    let m : n + suc (length rest.commands) ≡ n + 1 + length rest.commands = omega arith in
    let t : at + (w + rest.width) ≡ at + w + rest.width = omega arith in
    rw (s, m, t)

-- what a run has yet to do that has answered `answered` commands of `at` bytes and stands at u: a turn of the loop leaves this as it is
unfoldable pub resume : Bool → State → Bytes → Bytes → ℕ → ℕ → Outcome
resume hv u input output answered at = finish hv u output answered at (takes (length input - at) input at (length output - answered * 24))

-- number 1
pub run-unsound : (hv : Bool) (n : Counts) (words : List ℕ) (input output : Bytes) → words_sound n words ≡ false →
    run_of hv n words input output ≡ record { words = words; output = output; answered = 0; taken = 0; stop = 1 }
unfolding run_of
run-unsound hv n words input output h = rw h

pub resume-start : (hv : Bool) (n : Counts) (words : List ℕ) (input output : Bytes) → words_sound n words ≡ true →
    resume hv (state_of n words) input output 0 0 ≡ run_of hv n words input output
unfolding resume run_of
resume-start hv n words input output h =
    let a : length input - 0 ≡ length input = omega arith in
    let b : length output - 0 ≡ length output = omega arith in
    rw (h, a, b)

module _ (hv : Bool) (u : State) (input output : Bytes) (answered at : ℕ) where
  abbrev room : ℕ
  room = length output - answered * 24

  -- the run ends here, with a number
  abbrev pub Over : ℕ → Type 0
  Over k = resume hv u input output answered at ≡ record { words = encode u; output = output; answered = answered; taken = at; stop = k }

  resumes : {t : Taken} → Takes input at room t → resume hv u input output answered at ≡ finish hv u output answered at t
  unfolding resume
  resumes r = ap (finish hv u output answered at) (takes-only input (length input - at) r (omega arith))

  pub resume-end : length input ≤ at → Over 0
  resume-end h = resumes (at-end h) ∙ finish-ended hv u output answered at 0

  module _ (h : at < length input) where
    -- numbers 2 and 3
    pub resume-stop : {k : Stop} → decode_at input at ≡ Err k → Over (stop_number k)
    resume-stop {k} e = resumes (at-stop h e) ∙ finish-ended hv u output answered at (stop_number k)

    -- number 4
    pub resume-full : {c : Command} {width : ℕ} → decode_at input at ≡ Ok (c, width) → length output - answered * 24 < 24 → Over 4
    resume-full e f = resumes (no_room h e f) ∙ finish-ended hv u output answered at 4

    -- a command answered
    pub resume-turn : {c : Command} {width : ℕ} → decode_at input at ≡ Ok (c, width) → answered * 24 + 24 ≤ length output →
        resume hv u input output answered at
        ≡ resume hv (step hv u c).state input (sets output (answered * 24) (answer_bytes (step hv u c).answer)) (answered + 1) (at + width)
    unfolding resume
    resume-turn {c} {width} e f =
        let k : room - 24 ≡ length (sets output (answered * 24) (answer_bytes (step hv u c).answer)) - (answered + 1) * 24 =
        rw length-sets (omega arith) in
        resumes (one h e (omega arith) (takes_all input (length input - (at + width)) (omega arith)))
        ∙ finish-more hv u output answered at width c _ ∙ rw k
