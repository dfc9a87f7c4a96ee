-- A lookup that is noted before its outcome is known, and told if it was a miss, comes to one that is noted behind it. Assumes nothing.
use Rattle.std.proofs.Common.{Some, Option}
use Prim.Native.Nat.{ℕ, ◌%◌, ◌<◌}
use mathlib.Core.Path.{◌≡◌, ◌∙◌}
use mathlib.Core.Bool.{true, false, cond}
use mathlib.Core.List.{List}
use native.Mathlib.Omega.{arith}
use native.Mathlib.Nat.{add-zero}
use lib.Dec.{eqb}
use lib.ListN.{length, get_or, length-set}
use lib.Seq.{get_or-set_same, set-set}
use Rattle.machine.specs.Slots.{no_slot, key_address, search, PageMatch, within, Looked, hit, miss, matched_at, looked_at, lookup}
use Rattle.machine.specs.Record.{Records, record_of, turned, pushed, put, noted}
use Rattle.machine.specs.State.{counts, State, state_in, side_of, with_records, encode, sound}
use Rattle.machine.specs.Access.{lookup_key, miss_trap, trap_tag, settle_looked, missed, outcome_noted}
use Rattle.machine.specs.declared.Slot.{Slot}
use Rattle.machine.specs.declared.Reach.{Reach}
use Rattle.machine.specs.declared.Key.{Key}
use Rattle.machine.specs.declared.Access.{Access}
use Rattle.machine.specs.declared.Answer.{Answer}
use Rattle.machine.proofs.Matches.{match-within, found-holds}
use Rattle.machine.proofs.State.{Sized, sound-sized, state-encode}
use Rattle.machine.proofs.Lookups.{looked-records, looked-with, noted-sound}
use Rattle.state.specs.Calls.{SoundIn, on_records, miss_noted, Did}
use Rattle.state.proofs.Parts.{sized-with_registers}
use Rattle.access.proofs.Laws.{trap-length}

-- a hit put into a record, and told to be a miss
even-put : (y : Records) (r : ℕ) → r < length y.newest → get_or (put r 0 y).newest r 0 % 2 ≡ 0
unfolding put pushed
even-put y r b = rw (get_or-set_same y.newest r _ 0 b) (omega arith)

missed-put : (y : Records) (r : ℕ) → r < length y.newest → miss_noted r (put r 0 y) ≡ put r 1 y
unfolding miss_noted put pushed
missed-put y r b = rw (get_or-set_same y.newest r _ 0 b, set-set, add-zero)

module _ (words : List ℕ) (h : SoundIn words) (a : Access) (f : (a.strand < 4) × (a.side < 2)) {left : List ℕ}
    (e : left ≡ on_records (noted (record_of a.strand a.side) 0) words) where
  abbrev u : State
  u = state_in words

  abbrev r : ℕ
  r = record_of a.strand a.side

  -- the record that the lookup is put into, and the records then
  abbrev y : Records
  y = cond (eqb (get_or u.records.seen r 0 % 64) 0) (turned r u.records) u.records

  abbrev x : Records
  x = put r 0 y

  left-sound : sound counts (with_records u x) ≡ true
  left-sound = noted-sound counts u h a.strand a.side f.0 f.1 false

  z : Sized counts (with_records u x)
  z = sound-sized counts (with_records u x) left-sound

  room : r < length y.newest
  unfolding put
  room = omega (arith, length-set y.newest r (pushed (get_or y.newest r 0) 0), z.newest, f.0, f.1)

  -- the state noted
  pub noted_back : state_in left ≡ with_records u x
  noted_back = rw e (state-encode counts (with_records u x) z)

  pub noted_in : SoundIn left
  noted_in = rw noted_back left-sound

  -- what is looked up and found there is what the state itself has
  pub looked-same : (key : Key) → key ≡ lookup_key (state_in left).registers a → (o : Option ℕ) → search key (side_of (state_in left) a.side) ≡ o
      → lookup (lookup_key u.registers a) (side_of u a.side) ≡ looked_at key (side_of (state_in left) a.side) o
  unfolding lookup
  looked-same key k o i = rw (← i, k, noted_back)

  -- a hit stays one
  pub noted-hit : {last : List ℕ} {given : Answer} (key : Key) (i : ℕ) → search key (side_of (state_in left) a.side) ≡ Some i →
      let found : Looked = looked_at key (side_of (state_in left) a.side) (Some i) in
      Did last given (settle_looked (state_in left) a found) → Did last given (outcome_noted a (missed found) (settle_looked u a found))
  noted-hit {last} {given} key i o = go _ (match-within (get_or slots i no_slot) (key_address key) (found-holds key slots i o))
    where
      slots : List Slot
      slots = side_of (state_in left) a.side

      go : (m : PageMatch) {w : Reach} → m ≡ within w → Did last given (settle_looked (state_in left) a (matched_at i m))
          → Did last given (outcome_noted a (missed (matched_at i m)) (settle_looked u a (matched_at i m)))
      go m {w} e d =
          let hits : Did last given (settle_looked (with_records u x) a (hit i w)) = rw (e, noted_back) at d in
          rw (e, looked-records u a (hit i w)) (rw (looked-with u x a (hit i w)) at hits)

  -- a miss is told
  module _ {last : List ℕ} {given : Answer} (d : Did last given (settle_looked (state_in left) a miss)) where
    abbrev v : State
    v = (settle_looked (with_records u x) a miss).state

    zv : Sized counts v
    zv = sized-with_registers counts (with_records u x) z _ (trap-length u.registers a (miss_trap u.registers a) (trap_tag u.registers a) ∙ z.registers)

    missed-words : last ≡ encode v
    missed-words = rw noted_back at d.words

    missed-back : state_in last ≡ v
    missed-back = rw missed-words (state-encode counts v zv)

    -- the record's newest word, whose lowest bit is the lookup's
    pub missed-even : get_or (state_in last).records.newest r 0 % 2 ≡ 0
    missed-even = rw missed-back (even-put y r room)

    pub noted-miss : {end : List ℕ} → end ≡ on_records (miss_noted r) last → Did end given (outcome_noted a 1 (settle_looked u a miss))
    noted-miss g = record {
      words = g ∙ rw (missed-back, missed-put y r room);
      answer = rw noted_back at d.answer;
    }
