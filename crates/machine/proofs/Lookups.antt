-- Only an access that looks up changes a miss record, and only that of its strand and side. Assumes nothing.
use Rattle.std.proofs.Common.{Ok, Err, Result}
use Prim.Native.Nat.{ℕ, ◌<◌}
use mathlib.Core.Path.{◌≡◌, refl, sym, ◌∙◌}
use mathlib.Core.Bool.{Bool, true, false, ◌&&◌}
use mathlib.Core.Logic.{◌⊎◌, inl, inr}
use lib.Dec.{eqb}
use lib.ListN.{get_or}
use borrow.Author.Tests.{eqb-true, ltb-true}
use Rattle.laws.specs.Tests.{tick, all_of}
use Rattle.laws.proofs.Bools.{by-test, and_both, and_left, and_right}
use Rattle.machine.specs.Slots.{no_slot, Looked, hit, miss, lookup, set_used}
use Rattle.machine.specs.Record.{Records, record_of, noted}
use Rattle.machine.specs.State.{Counts, State, side_of, with_side, with_records, side_fits, sound}
use Rattle.machine.specs.Questions.{kind_side, asked_insertion, asked, ask, verdict}
use Rattle.machine.specs.Access.{stepped, access_of, lookup_key, prepare, translated_by, judge, settle_judged, settle_looked, missed, settle}
use Rattle.machine.specs.Step.{act, step_by, step, insert_step}
use Rattle.machine.specs.Stream.{Bytes}
use Rattle.machine.specs.Serve.{table_used, asked_table, entry_fits, serve_entry, serve_by, serve}
use Rattle.machine.specs.Lookups.{SameRecord, LooksUp, looks_up, Lookups}
use Rattle.machine.specs.declared.VirtualAddress.{VirtualAddress}
use Rattle.machine.specs.declared.Access.{Access}
use Rattle.machine.specs.declared.Translation.{Translation}
use Rattle.machine.specs.declared.Prepared.{Prepared}
use Rattle.machine.specs.declared.Prepared.TheVariants as prepared
use Rattle.machine.specs.declared.Command.{Command}
use Rattle.machine.specs.declared.Command.TheVariants as command
use Rattle.machine.proofs.State.{sound-registers, sound-records, passed-asked, kind_side_lem}
use Rattle.machine.proofs.Records.{record-seen, record-newest, record-older, noted-alike, records_sound_lem, records-back}
use Rattle.machine.specs.declared.Refusal.{Refusal}
use Rattle.machine.specs.declared.Trap.{Trap}

ruleset conj = (and_left, and_right, ltb-true)

-- what is found changes no record
judged-records : (u : State) (a : Access) (p : Translation) (j : Result (Unit {0}) Trap) → (settle_judged u a p j).state.records ≡ u.records
judged-records u a p (Err t) = refl
judged-records u a p (Ok _) = refl

pub looked-records : (u : State) (a : Access) (f : Looked) → (settle_looked u a f).state.records ≡ u.records
looked-records u a miss = refl
looked-records u a (hit i r) =
    let word : ℕ = (get_or (side_of u a.side) i no_slot).word in
    judged-records (with_side u a.side (set_used i (side_of u a.side))) a (translated_by word r) (judge u.registers a word)

-- nor goes by one
judged-with : (u : State) (x : Records) (a : Access) (p : Translation) (j : Result (Unit {0}) Trap)
    → settle_judged (with_records u x) a p j ≡ stepped (with_records (settle_judged u a p j).state x) (settle_judged u a p j).answer
judged-with u x a p (Err t) = refl
judged-with u x a p (Ok _) = refl

pub looked-with : (u : State) (x : Records) (a : Access) (f : Looked)
    → settle_looked (with_records u x) a f ≡ stepped (with_records (settle_looked u a f).state x) (settle_looked u a f).answer
looked-with u x a miss = refl
looked-with u x a (hit i r) =
    let word : ℕ = (get_or (side_of u a.side) i no_slot).word in
    judged-with (with_side u a.side (set_used i (side_of u a.side))) x a (translated_by word r) (judge u.registers a word)

-- a lookup noted leaves a sound state
pub noted-sound : (n : Counts) (u : State) → sound n u ≡ true → (strand side : ℕ) → strand < 4 → side < 2 → (b : Bool)
    → sound n (with_records u (noted (record_of strand side) (tick b) u.records)) ≡ true
unfolding sound
noted-sound n u h strand side s d b =
    let i : side_fits n.itlb u.itlb ≡ true = search conj in
    let e : side_fits n.dtlb u.dtlb ≡ true = search conj in
    and_both _ _ (sound-registers n u h) (and_both _ _ i (and_both _ _ e
    (records_sound_lem (noted-alike (records-back u.records (sound-records n u h)) strand side s d b))))

outcome : (f : Looked) → (b : Bool) × (missed f ≡ tick b)
outcome miss = (true, refl)
outcome (hit i r) = (false, refl)

module _ (n : Counts) (u : State) (h : sound n u ≡ true) (strand side : ℕ) (s : strand < 4) (d : side < 2) where
  kept : {v : State} → v.records ≡ u.records → SameRecord strand side u v
  kept e = record { seen = rw e; newest = rw e; older = rw e }

  -- one is noted for another strand or side
  noted_other : (k e : ℕ) (b : Bool) → k < 4 → e < 2 → (eqb strand k && eqb side e) ≡ false
      → SameRecord strand side u (with_records u (noted (record_of k e) (tick b) u.records))
  noted_other k e b q w o =
      let x = records-back u.records (sound-records n u h) in
      let y = noted-alike x k e q w b in
      record {
        seen = record-seen y strand side s d ∙ rw o (sym (record-seen x strand side s d));
        newest = record-newest y strand side s d ∙ rw o (sym (record-newest x strand side s d));
        older = record-older y strand side s d ∙ rw o (sym (record-older x strand side s d));
      }

  module _ (hv : Bool) (k kind selector size : ℕ) (address : VirtualAddress)
      (v : verdict hv u (command.Access k kind selector size address) ≡ Ok tt) where
    abbrev a : Access
    a = access_of u.registers k kind selector size address

    strand-small : k < 4
    unfolding asked all_of
    strand-small = let q = passed-asked hv u (command.Access k kind selector size address) v in search conj

    noted-same : (eqb strand k && eqb side (kind_side kind)) ≡ false → SameRecord strand side u (settle u a prepared.Lookup).state
    noted-same o =
        let found : Looked = lookup (lookup_key u.registers a) (side_of u a.side) in
        let (b, e) = outcome found in
        let t = noted_other k (kind_side kind) b strand-small (kind_side_lem kind) o in
        rw (looked-records u a found, e) (record { seen = t.seen; newest = t.newest; older = t.older })

    settled-record : (p : Prepared) → prepare u.registers a ≡ p
        → SameRecord strand side u (settle u a p).state ⊎ LooksUp hv u strand side (command.Access k kind selector size address)
    settled-record (prepared.Stopped t tag) e = inl (kept refl)
    settled-record (prepared.Bypass p) e = inl (kept refl)
    settled-record prepared.Lookup e = by-test (eqb strand k && eqb side (kind_side kind))
        (λ t.
        let is : strand ≡ k = eqb-true strand k (and_left _ _ t) in
        let on : side ≡ kind_side kind = eqb-true side (kind_side kind) (and_right (eqb strand k) _ t) in
        inr (rw is (looks_up v (sym on) e)))
        (λ t. inl (noted-same t))

  act-record : (hv : Bool) (c : Command) → verdict hv u c ≡ Ok tt → SameRecord strand side u (act u c).state ⊎ LooksUp hv u strand side c
  unfolding act
  act-record hv (command.Write k number value) v = inl (kept refl)
  act-record hv (command.Insert k other flags word) v = inl (kept refl)
  act-record hv (command.DemapPage k other selector flags address) v = inl (kept refl)
  act-record hv (command.DemapContext k other selector) v = inl (kept refl)
  act-record hv (command.DemapAll k other) v = inl (kept refl)
  act-record hv (command.Invalidate other) v = inl (kept refl)
  act-record hv (command.Access k kind selector size address) v = settled-record hv k kind selector size address v _ refl
  act-record hv (command.Read k number) v = inl (kept refl)
  act-record hv (command.Pointers k other) v = inl (kept refl)
  act-record hv (command.Rate k other) v = inl (kept refl)

  step-record : (hv : Bool) (c : Command) → SameRecord strand side u (step hv u c).state ⊎ LooksUp hv u strand side c
  unfolding step
  step-record hv c = go (verdict hv u c) refl
    where
      go : (v : Result (Unit {0}) Refusal) → verdict hv u c ≡ v → SameRecord strand side u (step_by v u c).state ⊎ LooksUp hv u strand side c
      go (Ok _) e = act-record hv c e
      go (Err r) e = inl (kept refl)

-- ---- a served miss
insertion-records : (u : State) (strand side word : ℕ) → (insert_step u strand side 0 word).state.records ≡ u.records
unfolding insert_step act
insertion-records u strand side word = go (ask (asked_insertion u strand side 0 word))
  where
    go : (v : Result (Unit {0}) Refusal) → (step_by v u (command.Insert strand side 0 word)).state.records ≡ u.records
    go (Ok _) = refl
    go (Err r) = refl

served-records : (u : State) (strand side : ℕ) (of_zero of_other : Bytes) → (serve u strand side of_zero of_other).state.records ≡ u.records
unfolding serve
served-records u strand side of_zero of_other = go (ask (asked_table u strand side of_zero of_other))
  where
    entry : (tag word : ℕ) → (serve_entry u strand side tag word).state.records ≡ u.records
    entry tag word = by-test (entry_fits u.registers strand side tag word) (λ e. rw e (insertion-records u strand side word)) (λ e. rw e)

    go : (v : Result (Unit {0}) Refusal) → (serve_by v u strand side (table_used u.registers strand side of_zero of_other)).state.records ≡ u.records
    go (Ok _) = entry _ _
    go (Err r) = refl

pub lookups : Lookups
lookups = record { by_command = λ hv n u c strand side h s d. step-record n u h strand side s d hv c; by_miss = served-records }
