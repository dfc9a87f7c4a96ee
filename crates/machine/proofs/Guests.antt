-- Guests are confined: registers that mode 1 may not write stay, and of what can take a locked entry (`Removes`) nothing is left to a stranger in a stream
-- without the mark.
-- Assumes nothing.
use Rattle.std.proofs.Common.{Ok}
use Prim.Native.Nat.{ℕ, suc, ◌≤◌, ◌<◌}
use mathlib.Core.Path.{◌≡◌, refl, sym, ap, ◌∙◌}
use mathlib.Core.Bool.{Bool, true, false, cond, ◌&&◌}
use mathlib.Core.List.{List, [], ◌∷◌, ◌++◌}
use mathlib.Core.Logic.{⊎_elim}
use native.Mathlib.Omega.{arith}
use lib.Dec.{eqb, ltb}
use borrow.Author.Tests.{eqb-true, eqb-false, eq-eqb, ne_eqb, leb-true, ltb-true}
use Rattle.laws.specs.Tests.{tick, count, all_of}
use Rattle.laws.proofs.Bools.{by-test, clash, and_left, and_right}
use Rattle.laws.proofs.Finds.{stands-count, count_index, how_many_lem}
use Rattle.machine.specs.Registers.{partition}
use Rattle.machine.specs.State.{Counts, counts, slot_count, State}
use Rattle.machine.specs.Permission.{permitted}
use Rattle.machine.specs.Questions.{asked, verdict}
use Rattle.machine.specs.Step.{step}
use Rattle.machine.specs.Ledger.{Entry, Ledger, Name, unlocked, guest_writes, first_no, mode_allows, questions, does, enters}
use Rattle.machine.specs.Places.{slots, Reference, reference_words}
use Rattle.machine.specs.Demand3.{Live}
use Rattle.machine.specs.Frame.{LivesIn, Removes, invalidated, overlapped, demapped_page, demapped_context, demapped_all, displaced}
use Rattle.machine.specs.Good.{ReferenceGood, GoodWords}
use Rattle.machine.specs.Reference.{displaced_name, reference_next, reference_after}
use Rattle.machine.specs.Extent.{disturbs}
use Rattle.machine.specs.Guests.{names, Named, Guests, Confined, Unmarked, none, run, GuestsConfined, is_invalidation, MarkAlone}
use Rattle.machine.specs.declared.Slot.{Slot}
use Rattle.machine.specs.declared.Command.{Command}
use Rattle.machine.specs.declared.Command.TheVariants as command
use Rattle.machine.proofs.State.{passed-asked}
use Rattle.machine.proofs.Alike.{hit, SideAlike, ReferenceAlike}
use Rattle.machine.proofs.Sides.{eqb-self, same_entry, entry-self, entry-same}
use Rattle.machine.proofs.Commands.{alike-side}
use Rattle.machine.proofs.Demand3.{first_fine, alike-sound, step-says}
use Rattle.machine.proofs.Good.{state_for, good-alike}
use Rattle.machine.proofs.Frame.{count-lives, lives-count, lives-same, framed}
use Rattle.machine.proofs.Extent.{does-lasts}
use Rattle.machine.proofs.Reference.{own-next, after-good, both-sides}

ruleset conj = (and_left, and_right, ltb-true)

-- ---- registers
-- in mode 0 or 1, what is permitted is what mode 1 may do
guest-only : (l : Ledger) (strand : ℕ) (guest : Bool) → l.registers strand 3 ≤ 1 → mode_allows l strand guest ≡ true → guest ≡ true
guest-only l strand guest h t = by-test (eqb (l.registers strand 3) 0)
    (λ e. clash (rw e at t) refl)
    (λ e.
    let one : l.registers strand 3 ≡ 1 = omega (arith, eqb-false (l.registers strand 3) 0 e) in
    rw (e, eq-eqb (l.registers strand 3) 1 one) at t)

other-side : (side : ℕ) → eqb side (suc side) ≡ false
other-side side = ne_eqb side (suc side) (λ e. omega arith)

module _ (n : ℕ → ℕ) (l : Ledger) (s r : ℕ) (small : r ≤ 5) (own : guest_writes r ≡ false) where
  abbrev Stays : Ledger → Type 0
  Stays m = m.registers s r ≡ l.registers s r

  write-stays : (strand number value : ℕ) → guest_writes number ≡ true → cond (eqb s strand && eqb r number) value (l.registers s r) ≡ l.registers s r
  write-stays strand number value g = by-test (eqb r number)
      (λ e. clash (rw (eqb-true r number e) g) own)
      (λ e. by-test (eqb s strand) (λ f. rw (e, f)) (λ f. rw (e, f)))

  does_stays : (c : Command) (d : Name) → first_no (questions false l c) ≡ 0 → ((strand : ℕ) → strand < 4 → names strand c ≡ true → l.registers strand 3 ≤ 1)
      → Stays (does n l c d).ledger
  unfolding does names questions disturbs
  does_stays (command.Write strand number value) d e g =
      let a = first_fine 5 _ _ (λ z. omega arith) e in
      let b = first_fine 9 _ _ (λ z. omega arith) a.1 in
      let c = first_fine 10 _ _ (λ z. omega arith) b.1 in
      let m = first_fine 16 _ _ (λ z. omega arith) c.1 in
      write-stays strand number value (guest-only l strand _ (g strand (omega (arith, leb-true strand 3 a.0)) (eqb-self strand)) m.0)
  does_stays (command.Insert strand side flags word) d e g =
      (does-lasts s (suc side) l n (command.Insert strand side flags word) d (other-side side)).registers r small
  does_stays (command.DemapPage strand side selector flags address) d e g =
      (does-lasts s (suc side) l n (command.DemapPage strand side selector flags address) d (other-side side)).registers r small
  does_stays (command.DemapContext strand side selector) d e g =
      (does-lasts s (suc side) l n (command.DemapContext strand side selector) d (other-side side)).registers r small
  does_stays (command.DemapAll strand side) d e g = (does-lasts s (suc side) l n (command.DemapAll strand side) d (other-side side)).registers r small
  does_stays (command.Invalidate side) d e g = (does-lasts s (suc side) l n (command.Invalidate side) d (other-side side)).registers r small
  does_stays (command.Access strand kind selector size address) d e g =
      (does-lasts s 0 l n (command.Access strand kind selector size address) d refl).registers r small
  does_stays (command.Read strand number) d e g = refl
  does_stays (command.Pointers strand side) d e g = (does-lasts s 0 l n (command.Pointers strand side) d refl).registers r small
  does_stays (command.Rate strand side) d e g = refl

  command-stays : (c : Command) (d : Name) → ((strand : ℕ) → strand < 4 → names strand c ≡ true → l.registers strand 3 ≤ 1)
      → Stays (enters false n l c d).ledger
  unfolding enters
  command-stays c d g = by-test (eqb (first_no (questions false l c)) 0) (λ t. rw t (does_stays c d (eqb-true _ 0 t) g)) (λ t. rw t)

-- ---- locked entries
-- the ledger lists what lives in a slot
module _ {n : ℕ} {s : List Slot} {m : List Entry} (h : SideAlike n s m) (e : Entry) where
  live-lives : Live e m → LivesIn s e
  live-lives l = count-lives s e (rw (h.same (same_entry e)) (stands-count (same_entry e) m e (entry-self e) l))

  lives-live : LivesIn s e → Live e m
  lives-live l =
      let c : 1 ≤ count (same_entry e) m = rw (h.same (same_entry e)) at (lives-count s e l (hit (same_entry e)) (lives-same s e l)) in
      let (i, w, t) = count_index (same_entry e) m e c in
      (i, w, sym (entry-same e _ t))

-- no command of a stranger takes it
module _ (u : State) (side : ℕ) (e : Entry) (locked : e.locked ≡ true) where
  abbrev Strangers : Command → Type 0
  Strangers c = (strand : ℕ) → strand < 4 → names strand c ≡ true → partition u.registers strand ≡ e.partition → ⊥

  lock-held : unlocked e ≡ true → ⊥
  lock-held t = clash (rw locked at t) refl

  spared : {c : Command} → Removes u side e c → verdict false u c ≡ Ok tt → Strangers c → ⊥
  unfolding asked permitted all_of names
  spared invalidated v far = let q = passed-asked false u _ v in clash (and_right (ltb side 2) false q) refl
  spared (overlapped {strand} p t) v far = let q = passed-asked false u _ v in far strand (search conj) (eqb-self strand) p
  spared (demapped_page {strand} p t) v far = let q = passed-asked false u _ v in far strand (search conj) (eqb-self strand) p
  spared (demapped_context {strand} p t) v far = let q = passed-asked false u _ v in far strand (search conj) (eqb-self strand) p
  spared (demapped_all p t) v far = lock-held t
  spared (displaced full apart t) v far = lock-held t

-- ---- a list of commands
named-first : (c : Command) (cs : List Command) (strand : ℕ) → strand < 4 → names strand c ≡ true → Named (c ∷ cs) strand
unfolding count
named-first c cs strand s t = record { strands = s; named = rw (how_many_lem (names strand) (c ∷ cs)) (omega (arith, ap tick t)) }

named-later : (c : Command) (cs : List Command) (strand : ℕ) → Named cs strand → Named (c ∷ cs) strand
unfolding count
named-later c cs strand x = record { strands = x.strands; named = rw (how_many_lem (names strand) (c ∷ cs)) (omega (arith, how_many_lem (names strand) cs, x.named)) }

-- one command, and what it leaves for the others
module _ {n : Counts} {u : State} {k : Reference} (h : ReferenceAlike n u k) (c : Command) (cs : List Command) where
  abbrev next : Reference
  next = reference_next false (slot_count n) k c

  next-alike : ReferenceAlike n (step false u c).state next
  next-alike = rw (own-next h false c) at (step-says false n u k c h).alike

  stays : Guests k.ledger (c ∷ cs) → (number : ℕ) → number ≤ 5 → guest_writes number ≡ false → (strand : ℕ)
      → next.ledger.registers strand number ≡ k.ledger.registers strand number
  stays g number small own strand =
      command-stays (slot_count n) k.ledger strand number small own c (displaced_name k c) (λ s b m. g s (named-first c cs s b m))

  next-live : (side : ℕ) (e : Entry) → side < 2 → Live e (k.ledger.entries side) → e.locked ≡ true
      → ((strand : ℕ) → Named (c ∷ cs) strand → k.ledger.registers strand 0 ≡ e.partition → ⊥) → Live e (next.ledger.entries side)
  next-live side e b l t far =
      let far-off : Strangers u side e t c = λ strand s m p. far strand (named-first c cs strand s m) (h.ledger.registers strand 0 s (omega arith) ∙ p) in
      lives-live (alike-side side b next-alike.ledger) e
      (⊎_elim (λ y. y) (λ y. absurd (spared u side e t y.1 y.0 far-off))
      (framed.by_command false n u c side e (alike-sound n u k.ledger h.ledger) b (live-lives (alike-side side b h.ledger) e l)))

confined : (n : Counts) (u : State) (k : Reference) (cs : List Command) → ReferenceAlike n u k → Guests k.ledger cs
    → Confined k.ledger cs (reference_after false (slot_count n) k cs).ledger
unfolding reference_after
confined n u k [] h g =
    record { partitions = λ strand. refl; modes = λ strand. refl; translations = λ strand. refl; locked = λ side e b l t far. l }
confined n u k (c ∷ cs) h g =
    let partitions = stays h c cs g 0 (omega arith) refl in
    let modes = stays h c cs g 3 (omega arith) refl in
    let r = confined n (step false u c).state (next h c cs) cs (next-alike h c cs) (λ strand x. rw (modes strand) (g strand (named-later c cs strand x))) in
    record {
      partitions = λ strand. r.partitions strand ∙ partitions strand;
      modes = λ strand. r.modes strand ∙ modes strand;
      translations = λ strand. r.translations strand ∙ stays h c cs g 4 (omega arith) refl strand;
      locked = λ side e b l t far.
          r.locked side e b (next-live h c cs side e b l t far) t (λ strand x p. far strand (named-later c cs strand x) (sym (partitions strand) ∙ p));
    }

-- ---- a list of runs
after-append : (n : ℕ → ℕ) (k : Reference) (cs ds : List Command)
    → reference_after false n (reference_after false n k cs) ds ≡ reference_after false n k (cs ++ ds)
unfolding reference_after
after-append n k [] ds = refl
after-append n k (c ∷ cs) ds = after-append n (reference_next false n k c) cs ds

module _ (n : Counts) where
  unsound-stays : {words last : List ℕ} {cs : List Command} → Unmarked (slot_count n) words cs last → (GoodWords (slot_count n) words → ⊥) → last ≡ words
  unsound-stays none bad = refl
  unsound-stays (run r x rest) bad =
      let same = (r.unsound bad).0 in
      unsound-stays rest (rw same bad) ∙ same

  words-after : {words last : List ℕ} {cs : List Command} → Unmarked (slot_count n) words cs last → (k : Reference) → ReferenceGood (slot_count n) k
      → words ≡ reference_words k → last ≡ reference_words (reference_after false (slot_count n) k cs)
  unfolding reference_after
  words-after none k g e = e
  words-after (run {cs} {input} {output} {t} r x rest) k g e =
      rw (← (after-append (slot_count n) k t.commands cs)) (words-after rest _ (after-good n k g false input output t x) (r.sound k g e t x).words)

  pub guests-confined : GuestsConfined (slot_count n)
  guests-confined = record {
    unsound = unsound-stays;
    sound = λ {words} {last} {cs} x k g e. (words-after x k g e, confined n (state_for n k g) k cs (good-alike n k g));
  }

pub guests-sold : GuestsConfined slots
guests-sold = rw both-sides at (guests-confined counts)

-- ---- the stream's mark
others-alike : (hv : Bool) (l : Ledger) (c : Command) → is_invalidation c ≡ false → questions hv l c ≡ questions false l c
unfolding is_invalidation questions
others-alike hv l (command.Write strand number value) e = refl
others-alike hv l (command.Insert strand side flags word) e = refl
others-alike hv l (command.DemapPage strand side selector flags address) e = refl
others-alike hv l (command.DemapContext strand side selector) e = refl
others-alike hv l (command.DemapAll strand side) e = refl
others-alike hv l (command.Invalidate side) e = clash refl e
others-alike hv l (command.Access strand kind selector size address) e = refl
others-alike hv l (command.Read strand number) e = refl
others-alike hv l (command.Pointers strand side) e = refl
others-alike hv l (command.Rate strand side) e = refl

pub mark-alone : MarkAlone
mark-alone = record { others = others-alike }
