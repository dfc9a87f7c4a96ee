-- How far a translation reaches, and how long it lasts. Assumes nothing.
use Rattle.std.proofs.Common.{Some, None, Option}
use Prim.Native.Nat.{ℕ, ◌+◌, ◌*◌, ◌-◌, ◌/◌, ◌%◌, ◌^◌, ◌<◌}
use mathlib.Core.Path.{◌≡◌, refl, ap, sym, ◌∙◌}
use mathlib.Core.Bool.{Bool, true, false, not, ◌&&◌, ◌||◌}
use mathlib.Core.List.{List, [], ◌∷◌, ◌++◌}
use native.Mathlib.Omega.{arith}
use lib.Dec.{eqb, leb}
use lib.ListN.{length, get_or, take, drop}
use borrow.Author.Tests.{eqb-true, eqb-false, eq-eqb, ne_eqb, le-leb, leb-true, not-true}
use Rattle.laws.specs.Tests.{any_of, first}
use Rattle.laws.specs.Passing.{none_passes, without, find}
use Rattle.laws.proofs.Bools.{by-test, clash, and_left, and_right, and_both, or_left, or_right}
use Rattle.laws.proofs.Finds.{Stands, none_passes_lem, find-says, find-only}
use Rattle.machine.specs.Slots.{no_slot, is_live, size_code, holds, answers_to}
use Rattle.machine.specs.Pages.{in_range, listed, page_size, page_start}
use Rattle.machine.specs.Words.{word_sound}
use Rattle.machine.specs.Sound.{slot_sound}
use Rattle.machine.specs.State.{Counts, slot_count, State, side_of}
use Rattle.machine.specs.Questions.{kind_side, key_of}
use Rattle.machine.specs.Stream.{Bytes}
use Rattle.machine.specs.Ledger.{Entry, Ledger, Name, Written, writes, with_entries, code_bytes, page_bytes, bit, address_good, reaches, overlap}
use Rattle.machine.specs.Ledger.{unlocked, big_endian, line, value_from, is_named, is_of, is_at, translation_on, context_picked, Asked, asked_side}
use Rattle.machine.specs.Ledger.{faults, faults_of, plain_trap, trap_with, first_fit, early_steps, found_by, misses, hits, puts, looked_up, accesses, pointers}
use Rattle.machine.specs.Ledger.{first_no, insertion_questions, questions, lacks_slot, displaces, inserts, does, enters, enters_insertion, serves}
use Rattle.machine.specs.Ledger.{Miss, refused, absent, present, miss}
use Rattle.machine.specs.Places.{Reference}
use Rattle.machine.specs.Reference.{displaced_name, reference_next, reference_after, miss_name}
use Rattle.machine.specs.Frame.{entry_in}
use Rattle.machine.specs.Extent.{Undisturbed, disturbs, Extent}
use Rattle.machine.specs.declared.Slot.{Slot}
use Rattle.machine.specs.declared.Key.{Key}
use Rattle.machine.specs.declared.Command.{Command}
use Rattle.machine.specs.declared.Command.TheVariants as command
use Rattle.machine.proofs.Pages.{range-start}
use Rattle.machine.proofs.Bytes.{bytes-big_endian, value-back}
use Rattle.machine.proofs.Sound.{live-parts, sound-slot}
use Rattle.machine.proofs.Alike.{Alike}
use Rattle.machine.proofs.Sides.{code_bytes_lem, reaches-holds, alike-nothing, alike-found}
use Rattle.machine.proofs.Questions.{address_good_lem}
use Rattle.machine.proofs.Looks.{Each, fit-ind, fit_none, physical-alike}
use Rattle.machine.proofs.Words.{physical-below}
use Rattle.machine.proofs.Commands.{looked, key-same, looked-one}
use Rattle.machine.proofs.Good.{good-alike}

ruleset disj = (or_left, or_right)

ruleset conj = (and_left, and_right)

-- ---- how long: what a command leaves as it was
same : {strand side : ℕ} {l : Ledger} → Undisturbed strand side l l
same = record { registers = λ number h. refl; entries = refl }

then : {strand side : ℕ} {l m o : Ledger} → Undisturbed strand side l m → Undisturbed strand side m o → Undisturbed strand side l o
then a b = record { registers = λ number h. b.registers number h ∙ a.registers number h; entries = b.entries ∙ a.entries }

-- a write of another register, or of another strand's
write-lasts : {strand side : ℕ} {l m : Ledger} → Undisturbed strand side l m → (s r value : ℕ) → (eqb s strand && leb r 5) ≡ false
    → Undisturbed strand side l (writes m s r value)
write-lasts {strand} u s r value h = record {
  registers = λ number small. by-test (eqb strand s && eqb number r)
      (λ t.
      let es : strand ≡ s = eqb-true strand s (and_left _ _ t) in
      let er : number ≡ r = eqb-true number r (and_right (eqb strand s) _ t) in
      clash (and_both _ _ (eq-eqb s strand (sym es)) (le-leb r 5 (rw er at small))) h)
      (λ t. rw t (u.registers number small));
  entries = u.entries;
}

-- what happens to the other side's list
entries-last : {strand side : ℕ} {l : Ledger} (k : ℕ) (m : List Entry) → eqb k side ≡ false → Undisturbed strand side l (with_entries l k m)
entries-last {strand} {side} k m h = record {
  registers = λ number small. refl;
  entries = rw (ne_eqb side k (λ e. eqb-false k side h (sym e)));
}

module _ (strand side : ℕ) (l : Ledger) where
  abbrev Lasts : Written → Type 0
  Lasts w = Undisturbed strand side l w.ledger

  -- a trap writes registers 20 to 25
  above : (s r : ℕ) → 5 < r → (eqb s strand && leb r 5) ≡ false
  above s r h = by-test (eqb s strand && leb r 5) (λ t. absurd (omega (arith, leb-true r 5 (and_right (eqb s strand) _ t)))) (λ t. t)

  faults-last : (a : Asked) (number type : ℕ) → Undisturbed strand side l (faults l a number type)
  faults-last a number type =
      write-lasts (write-lasts same a.strand (22 + asked_side a) a.used (above a.strand (22 + asked_side a) (omega arith)))
      a.strand (24 + asked_side a) (number * 256 + type) (above a.strand (24 + asked_side a) (omega arith))

  tagged-lasts : (a : Asked) (context number type : ℕ) → Lasts (trap_with l a context number type)
  unfolding trap_with
  tagged-lasts a context number type =
      write-lasts (faults-last a number type) a.strand (20 + asked_side a) _ (above a.strand (20 + asked_side a) (omega arith))

  -- a lookup that is put down changes neither registers nor entries
  puts-last : (a : Asked) (missed : Bool) (w : Written) → Lasts w → Lasts (puts a missed w)
  puts-last a missed w u = record { registers = u.registers; entries = u.entries }

  looked-lasts : (a : Asked) (o : Option Entry) → Lasts (looked_up l a o)
  unfolding misses hits
  looked-lasts a None = puts-last a true (misses l a) (tagged-lasts a _ _ 0)
  looked-lasts a (Some e) = puts-last a false (hits l a e) (fit-ind Lasts _ _ (tagged-lasts a _ _ _, (tagged-lasts a _ 0x6C 0, tt)) same)

  access-lasts : (a : Asked) → Lasts (accesses l a)
  unfolding accesses early_steps
  access-lasts a =
      fit-ind Lasts _ _
      (faults-last a 0x34 0, (faults-last a 0x37 0, (tagged-lasts a 0 0x30 0x02, (tagged-lasts a 0 0x30 0x04, (same, (tagged-lasts a _ _ 0x20, tt))))))
      (looked-lasts a (find (found_by l a) (l.entries (asked_side a))))

  insert-lasts : (n k : ℕ) (e : Entry) (d : Name) → eqb k side ≡ false → Lasts (inserts n l k e d)
  unfolding inserts
  insert-lasts n k e d h =
      let m : List Entry = l.entries k in
      by-test (lacks_slot n e m) (λ t. rw t same) (λ t.
      by-test (eqb (length m) n && none_passes (overlap e) m)
      (λ f. rw (t, f) (named (find (λ x. is_named d x && unlocked x) m)))
      (λ f. rw (t, f) (entries-last k (without (overlap e) m ++ (e ∷ [])) h)))
    where
      named : (o : Option Entry) → Lasts (displaces l k e d o)
      named None = same
      named (Some x) = entries-last k _ h

  pub does-lasts : (n : ℕ → ℕ) (c : Command) (d : Name) → disturbs strand side c ≡ false → Lasts (does n l c d)
  unfolding does disturbs pointers
  does-lasts n (command.Write s number value) d h = write-lasts same s number value h
  does-lasts n (command.Insert s k flags word) d h = insert-lasts (n k) k _ d h
  does-lasts n (command.DemapPage s k selector flags address) d h = entries-last k _ h
  does-lasts n (command.DemapContext s k selector) d h = entries-last k _ h
  does-lasts n (command.DemapAll s k) d h = entries-last k _ h
  does-lasts n (command.Invalidate k) d h = entries-last k _ h
  does-lasts n (command.Access s kind selector size address) d h = access-lasts _
  does-lasts n (command.Read s number) d h = same
  does-lasts n (command.Pointers s k) d h = same
  does-lasts n (command.Rate s k) d h = same

  command-lasts : (hv : Bool) (n : ℕ → ℕ) (c : Command) (d : Name) → disturbs strand side c ≡ false → Lasts (enters hv n l c d)
  unfolding enters
  command-lasts hv n c d h = by-test (eqb (first_no (questions hv l c)) 0) (λ t. rw t (does-lasts n c d h)) (λ t. rw t same)

  serve-lasts : (n : ℕ → ℕ) (at k : ℕ) (m : Miss) (d : Name) → eqb k side ≡ false → Lasts (serves n l at k m d)
  unfolding enters_insertion
  serve-lasts n at k (refused number) d h = same
  serve-lasts n at k absent d h = same
  serve-lasts n at k (present word) d h =
      by-test (eqb (first_no (insertion_questions l at k word)) 0) (λ t. rw t (insert-lasts (n k) k _ d h)) (λ t. rw t same)

commands-last : (hv : Bool) (n : ℕ → ℕ) (k : Reference) (cs : List Command) {strand side : ℕ} → any_of (disturbs strand side) cs ≡ false
    → Undisturbed strand side k.ledger (reference_after hv n k cs).ledger
unfolding reference_after any_of
commands-last hv n k [] h = same
commands-last hv n k (c ∷ cs) {strand} {side} h =
    then (command-lasts strand side k.ledger hv n c (displaced_name k c) (or_left _ _ h))
    (commands-last hv n (reference_next hv n k c) cs (or_right (disturbs strand side c) _ h))

-- ---- how far
-- bytes that none of the steps writes are those of the last
fit-last : (b : Bytes) (ss : List (Bool × Written)) (last : Written) → Each (λ w. w.bytes ≡ b → ⊥) ss → (first_fit ss last).bytes ≡ b
    → (any_of (λ s. s.0) ss ≡ false) × (last.bytes ≡ b)
unfolding any_of first_fit
fit-last b [] last h e = (refl, e)
fit-last b (s ∷ ss) last h e =
    by-test s.0 (λ t. absurd (h.0 (rw t at e))) (λ t. rw t (fit-last b ss last h.1 (rw t at e)))

line-value : (kind a b c v w : ℕ) → v < 2 ^ 64 → value_from 0 (take 8 (drop 8 (line kind a b c v w))) ≡ v
unfolding line
line-value kind a b c v w h =
    ap (λ (s : Bytes). value_from 0 (take 8 (s ++ big_endian 8 w))) (sym (bytes-big_endian v)) ∙ rw bytes-big_endian (value-back v h)

-- whether a word denies a write, its attributes, and the physical address that it gives, as `hits` has them
abbrev denied : ℕ → ℕ → Bool
denied kind word = eqb (bit 6 word) 0 && (eqb kind 2 || eqb kind 3)

abbrev attributes_in : ℕ → ℕ
attributes_in word = bit 10 word + 2 * bit 11 word + 4 * bit 12 word

abbrev physical_in : ℕ → ℕ → ℕ
physical_in word used =
    let address : ℕ = word / 2 ^ 13 % 2 ^ 43 * 2 ^ 13 in
    address - address % page_bytes word + used % page_bytes word

physical-small : (word used : ℕ) → word_sound word ≡ true → physical_in word used < 2 ^ 64
physical-small word used h =
    rw (← (physical-alike word (record { 0 = used }) h)) (omega (arith, physical-below word h (record { 0 = used })))

module _ (l : Ledger) (q : Asked) (attributes code address : ℕ) where
  abbrev told : Bytes
  told = line 1 attributes 0 code address 0

  -- no trap is a physical answer
  no-trap : (context number type : ℕ) → (trap_with l q context number type).bytes ≡ told → ⊥
  unfolding trap_with line
  no-trap context number type e = let z : ◌≡◌ {A = ℕ} 2 1 = ap (λ b. get_or b 0 0) e in omega arith

  no_plain : (number : ℕ) → (plain_trap l q number).bytes ≡ told → ⊥
  unfolding line
  no_plain number e = let z : ◌≡◌ {A = ℕ} 2 1 = ap (λ b. get_or b 0 0) e in omega arith

  -- and a bypass has 15
  no_step : (code ≡ 15 → ⊥) → Each (λ w. w.bytes ≡ told → ⊥) (early_steps l q)
  unfolding early_steps line
  no_step h =
      (no_plain 0x34, (no_plain 0x37, (no-trap 0 0x30 0x02, (no-trap 0 0x30 0x04, ((λ e. h (sym (ap (λ b. get_or b 3 0) e))), (no-trap _ _ 0x20, tt))))))

  -- an entry that answers so takes neither of its traps, and its word gives the bytes
  hit-told : (e : Entry) → address < 2 ^ 64 → word_sound e.word ≡ true → (hits l q e).bytes ≡ told
      → (not (eqb (faults_of (l.registers q.strand 3) q.kind e.word) 0) ≡ false) × (denied q.kind e.word ≡ false)
      × (attributes_in e.word ≡ attributes) × (e.word % 16 ≡ code) × (physical_in e.word q.used ≡ address)
  unfolding hits any_of line
  hit-told e small w h =
      let word : ℕ = e.word in
      let fault : ℕ = faults_of (l.registers q.strand 3) q.kind word in
      let (past, t) = fit-last told _ _ (no-trap _ _ fault, (no-trap _ 0x6C 0, tt)) h in
      let value : Bytes → ℕ = λ b. value_from 0 (take 8 (drop 8 b)) in
      let gives = line-value 1 (attributes_in word) 0 (word % 16) (physical_in word q.used) 0 (physical-small word q.used w) in (
        or_left _ _ past,
        or_left (denied q.kind word) false (or_right (not (eqb fault 0)) _ past),
        ap (λ b. get_or b 1 0) t,
        ap (λ b. get_or b 3 0) t,
        sym gives ∙ ap value t ∙ line-value 1 attributes 0 code address 0 small,
      )

abbrev is_some : Option Entry → Bool
is_some None = false
is_some (Some e) = true

other_offset : (frame y z : ℕ) → frame + z ≡ frame + y - y + z
other_offset frame y z = omega arith

-- two addresses in one page
same_start : (code a b : ℕ) → listed code ≡ true → b / code_bytes code ≡ a / code_bytes code → page_start code b ≡ page_start code a
same_start code a b h e = ap (λ n. n * page_size code) (rw (code_bytes_lem code h) at e)

module _ {n : Counts} {u : State} {l : Ledger} (h : Alike n u l) (q : Asked) (s : q.strand < 4) (c : q.selector < 3) where
  abbrev m : List Entry
  m = l.entries (kind_side q.kind)

  abbrev key : Key
  key = key_of (not (translation_on l q)) (l.registers q.strand 0) (context_picked l q.strand q.selector) (record { 0 = q.used })

  abbrev owned : Entry → Bool
  owned = is_of (l.registers q.strand 0) (not (translation_on l q)) (context_picked l q.strand q.selector)

  -- the entry found stands in a sound live slot
  found_slot_lem : (e : Entry) → find (found_by l q) m ≡ Some e → (x : Slot) × (slot_sound x ≡ true) × (is_live x ≡ true) × (e ≡ entry_in x)
  found_slot_lem e f = go (first (answers_to key) slots) refl
    where
      slots : List Slot
      slots = side_of u (kind_side q.kind)

      go : (o : Option ℕ) → first (answers_to key) slots ≡ o → (x : Slot) × (slot_sound x ≡ true) × (is_live x ≡ true) × (e ≡ entry_in x)
      go None g = clash (ap is_some f) (ap is_some (alike-nothing (looked h q) (key-same h q s c) g))
      go (Some i) g =
          let (live, t) = alike-found (looked h q) (key-same h q s c) i (looked-one h q s c) g in
          let both : Some e ≡ Some (entry_in (get_or slots i no_slot)) = sym f ∙ t in
          (get_or slots i no_slot, sound-slot slots i (looked h q).sound, live, cc)

  module _ (attributes code address : ℕ) (small : address < 2 ^ 64) (paged : code ≡ 15 → ⊥) where
    -- the address used, with another size
    abbrev near : ℕ → ℕ → Asked
    near size used = record { strand = q.strand; kind = q.kind; selector = q.selector; size = size; used = used }

    module _ (e : Entry) (f : find (found_by l q) m ≡ Some e) (past : any_of (λ (t : Bool × Written). t.0) (early_steps l q) ≡ false)
        (b : (hits l q e).bytes ≡ line 1 attributes 0 code address 0) (after : Ledger) (v : Undisturbed q.strand (kind_side q.kind) l after)
        (size used : ℕ) (aligned : used % 2 ^ size ≡ 0) (page : used / code_bytes code ≡ q.used / code_bytes code) where
      good : word_sound e.word ≡ true
      good = let (x, t, live, is) = found_slot_lem e f in rw is (live-parts x t live).word

      gives : (not (eqb (faults_of (l.registers q.strand 3) q.kind e.word) 0) ≡ false) × (denied q.kind e.word ≡ false)
          × (attributes_in e.word ≡ attributes) × (e.word % 16 ≡ code) × (physical_in e.word q.used ≡ address)
      gives = hit-told l q attributes code address e small good b

      has-page : listed code ≡ true
      unfolding word_sound
      has-page =
          let g : word_sound e.word ≡ true = good in
          let t : listed (e.word % 2 ^ 4) ≡ true = search conj in
          rw gives.3 at t

      start : page_start code used ≡ page_start code q.used
      start = same_start code q.used used has-page page

      -- rounding keeps an address in range
      in_range_lem : address_good used ≡ address_good q.used
      in_range_lem =
          address_good_lem used ∙ sym (range-start code used) ∙ ap in_range start ∙ range-start code q.used ∙ sym (address_good_lem q.used)

      near-past : any_of (λ (t : Bool × Written). t.0) (early_steps after (near size used)) ≡ false
      unfolding early_steps any_of
      near-past =
          let rest = or_right (not (eqb (q.used % 2 ^ q.size) 0)) _ past in
          let translated : eqb (l.registers q.strand 3) 2 ≡ false = search disj in
          rw (eq-eqb (used % 2 ^ size) 0 aligned, v.registers 3 (omega arith), translated, in_range_lem) (rw translated at rest)

      stands : (found_by l q e ≡ true) × Stands e m
      stands = rw f at (find-says (found_by l q) m)

      near-reached : reaches e used ≡ true
      unfolding is_at
      near-reached =
          let (x, t, live, is) = found_slot_lem e f in
          let coded : size_code x ≡ code = rw is at gives.3 in
          let r : reaches (entry_in x) q.used ≡ true = rw is at (and_right (owned e) (reaches e q.used) stands.0) in
          let held : holds x q.used ≡ true = sym (reaches-holds x t live q.used) ∙ r in
          let begins : page_start code q.used ≡ x.page = rw coded at (eqb-true (page_start (size_code x) q.used) x.page held) in
          rw (is, reaches-holds x t live used, coded) (eq-eqb (page_start code used) x.page (start ∙ begins))

      near-found : find (found_by after (near size used)) (after.entries (kind_side q.kind)) ≡ Some e
      unfolding is_at
      near-found =
          let found : found_by l (near size used) e ≡ true = and_both _ _ (and_left (owned e) _ stands.0) near-reached in
          rw (
            v.registers 0 (omega arith),
            v.registers 1 (omega arith),
            v.registers 2 (omega arith),
            v.registers 4 (omega arith),
            v.entries,
          )
          (find-only (found_by l (near size used)) m e found stands.1 (looked-one h (near size used) s c))

      near-hits : (hits after (near size used) e).bytes
          ≡ line 1 attributes 0 code (address - q.used % code_bytes code + used % code_bytes code) 0
      unfolding hits first_fit
      near-hits =
          let moved : physical_in e.word used ≡ address - q.used % code_bytes code + used % code_bytes code =
          rw (← gives.3, ← gives.4) (other_offset _ (q.used % page_bytes e.word) (used % page_bytes e.word)) in
          rw (v.registers 3 (omega arith), gives.0, gives.1, moved, gives.2, gives.3)

    -- an access that was answered so, and another one in its page
    near-told : (accesses l q).bytes ≡ line 1 attributes 0 code address 0 → (after : Ledger) → Undisturbed q.strand (kind_side q.kind) l after
        → (size used : ℕ) → used % 2 ^ size ≡ 0 → used / code_bytes code ≡ q.used / code_bytes code
        → (accesses after (near size used)).bytes ≡ line 1 attributes 0 code (address - q.used % code_bytes code + used % code_bytes code) 0
    unfolding accesses misses
    near-told b after v size used aligned page =
        let (past, t) = fit-last _ (early_steps l q) _ (no_step l q attributes code address paged) b in
        go (find (found_by l q) m) refl past t
      where
        go : (o : Option Entry) → find (found_by l q) m ≡ o → any_of (λ (t : Bool × Written). t.0) (early_steps l q) ≡ false
            → (looked_up l q o).bytes ≡ line 1 attributes 0 code address 0
            → (accesses after (near size used)).bytes ≡ line 1 attributes 0 code (address - q.used % code_bytes code + used % code_bytes code) 0
        go None f past t = absurd (no-trap l q attributes code address _ _ 0 t)
        go (Some e) f past t =
            rw (
              fit_none (early_steps after (near size used)) _ (near-past e f past t after v size used aligned page),
              near-found e f past t after v size used aligned page,
            )
            (near-hits e f past t after v size used aligned page)

pub extent : (n : Counts) → Extent n
extent n = record {
  page = λ k g q s c attributes code address small b paged after v size used aligned page.
      near-told (good-alike n k g).ledger q s c attributes code address small paged b after v size used aligned page;
  commands = λ hv k cs strand side h.
      commands-last hv (slot_count n) k cs (not-true _ (sym (none_passes_lem (disturbs strand side) cs) ∙ h));
  miss = λ k at served of_zero of_other strand side h.
      serve-lasts strand side k.ledger (slot_count n) at served (miss k.ledger at served of_zero of_other) (miss_name k served) h;
}
