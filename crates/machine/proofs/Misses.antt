-- A miss and its tables: the unit's questions, place and fit are the ledger's. Assumes nothing.
use Rattle.std.proofs.Common.{Ok, Err, Result}
use Prim.Native.Nat.{ℕ, ◌+◌, ◌*◌, ◌/◌, ◌%◌, ◌^◌, ◌≤◌, ◌<◌}
use mathlib.Core.Path.{◌≡◌, refl, sym, ◌∙◌}
use mathlib.Core.Bool.{true, cond, ◌&&◌}
use mathlib.Core.List.{List}
use native.Mathlib.Omega.{arith}
use native.Mathlib.Nat.{mod-lt, mod-eq_of_lt, add_assoc, add-zero}
use lib.Dec.{eqb}
use lib.ListN.{length, take, drop, length-drop}
use lib.Seq.{get_or-drop, drop-drop}
use lib.Pow.{pow-add, pow_pos, pow_mono}
use borrow.Author.Tests.{eqb-true, eq-eqb, ne_eqb, ltb-true}
use Rattle.laws.specs.Tests.{all_of}
use Rattle.laws.proofs.Bools.{by-test, both_ways, and_both, and_left, and_right}
use Rattle.machine.specs.Pages.{page_size, listed}
use Rattle.machine.specs.Words.{bits}
use Rattle.machine.specs.Registers.{tag_access, tag_address, base_number, configuration_number}
use Rattle.machine.specs.Tsb.{tsb_offset, miss_context, tsb_base, tsb_code}
use Rattle.machine.specs.State.{Counts, State}
use Rattle.machine.specs.Questions.{refusal_number, ask, kind_side}
use Rattle.machine.specs.Access.{Stepped, stepped}
use Rattle.machine.specs.Step.{insert_step}
use Rattle.machine.specs.Stream.{Bytes, eight}
use Rattle.machine.specs.Serve.{table_used, table_length, entry_start, asked_table, tag_fits, word_fits, entry_fits, serve_by, serve, part_by}
use Rattle.machine.specs.Ledger.{Ledger, value_from, first_no, pointer_of, base_of, configuration_of, table_for, table_bytes, miss_code}
use Rattle.machine.specs.Ledger.{entry_place, miss_questions, tag_agrees, word_agrees, Miss, refused, absent, present, miss_in, miss}
use Rattle.machine.specs.Reference.{Hands}
use Rattle.machine.specs.declared.Refusal.{Refusal}
use Rattle.machine.specs.declared.Answer.TheVariants as answer
use Rattle.machine.proofs.Sides.{code_bytes_lem}
use Rattle.machine.proofs.State.{configuration-listed, kind_side_lem, ask-fine}
use Rattle.machine.proofs.Readable.{front, front-take}
use Rattle.machine.proofs.Alike.{Alike}
use Rattle.machine.proofs.Questions.{at_most, round-down, live-word, tag_access_lem, verdict_number, refusal-positive, InStep, next, done, first_no_lem}

ruleset conj = (and_left, and_right, eqb-true, ltb-true)

ruleset tests = (arith, eqb-true, eq-eqb)

-- ---- the place
-- an entry of a TSB of 512 * 2^n lies within it
pub entry-within : (n code address : ℕ) → tsb_offset n code address + 16 ≤ 16 * 2 ^ (9 + n)
unfolding tsb_offset
entry-within n code address = omega (arith, mod-lt (address / page_size code) (pow_pos (9 + n)))

-- ---- the tag
-- its parts are those of one number
tag-whole : (tag context low : ℕ) → low < 2 ^ 42
    → eqb tag (context * 2 ^ 48 + low) ≡ (eqb (tag / 2 ^ 48) context && (eqb (bits 42 6 tag) 0 && eqb (tag % 2 ^ 42) low))
tag-whole tag context low h =
    both_ways (eqb tag (context * 2 ^ 48 + low)) (eqb (tag / 2 ^ 48) context && (eqb (bits 42 6 tag) 0 && eqb (tag % 2 ^ 42) low))
    (λ e.
    let f : tag ≡ context * 2 ^ 48 + low = eqb-true _ _ e in
    let a : tag / 2 ^ 48 ≡ context = omega arith in
    let b : bits 42 6 tag ≡ 0 = omega arith in
    let c : tag % 2 ^ 42 ≡ low = omega arith in
    and_both _ _ (eq-eqb _ _ a) (and_both _ _ (eq-eqb _ _ b) (eq-eqb _ _ c)))
    (λ e.
    let a : tag / 2 ^ 48 ≡ context = search conj in
    let b : bits 42 6 tag ≡ 0 = search conj in
    let c : tag % 2 ^ 42 ≡ low = search conj in
    eq-eqb tag _ (omega arith))

-- .. and so without its low six bits
tag-coarse : (tag context low : ℕ) → low < 2 ^ 36
    → eqb (tag / 64) (context * 2 ^ 42 + low) ≡ (eqb (tag / 2 ^ 48) context && (eqb (bits 42 6 tag) 0 && eqb (bits 6 36 tag) low))
tag-coarse tag context low h =
    both_ways (eqb (tag / 64) (context * 2 ^ 42 + low)) (eqb (tag / 2 ^ 48) context && (eqb (bits 42 6 tag) 0 && eqb (bits 6 36 tag) low))
    (λ e.
    let f : tag / 64 ≡ context * 2 ^ 42 + low = eqb-true _ _ e in
    let a : tag / 2 ^ 48 ≡ context = omega arith in
    let b : bits 42 6 tag ≡ 0 = omega arith in
    let c : bits 6 36 tag ≡ low = omega arith in
    and_both _ _ (eq-eqb _ _ a) (and_both _ _ (eq-eqb _ _ b) (eq-eqb _ _ c)))
    (λ e.
    let a : tag / 2 ^ 48 ≡ context = search conj in
    let b : bits 42 6 tag ≡ 0 = search conj in
    let c : bits 6 36 tag ≡ low = search conj in
    eq-eqb (tag / 64) _ (omega arith))

-- ---- a word of eight bytes, as the decoder and as the ledger read it
eight-drop : (s : Bytes) (at : ℕ) → eight s at ≡ eight (drop at s) 0
unfolding eight
eight-drop s at = simp (get_or-drop, add_assoc, add-zero)

eight-from : (s : Bytes) (at : ℕ) → at + 8 ≤ length s → eight s at ≡ value_from 0 (take 8 (drop at s))
unfolding eight value_from front
eight-from s at h =
    let r : Bytes = drop at s in
    let e : take 8 r ≡ front r 0 8 = sym (front-take r 8 (rw length-drop (omega arith))) in
    eight-drop s at ∙ rw e (omega arith)

-- ---- the registers of a state and a ledger that are alike
module _ {n : Counts} {u : State} {l : Ledger} (a : Alike n u l) (strand side : ℕ) (s : strand < 4) (d : side < 2) where
  abbrev file : List ℕ
  file = u.registers

  -- which of two sets is less than two
  set_below : kind_side (miss_context file strand side) < 2
  set_below = kind_side_lem (miss_context file strand side)

  base-alike : base_of l strand side 0 ≡ tsb_base file strand side 0
  base-alike = rw (base_of, tag_access_lem a strand s side d) (a.registers strand (base_number side (miss_context file strand side) 0) s (omega (arith, set_below)))

  code_alike : miss_code l strand side ≡ tsb_code file strand side 0
  code_alike =
      let configuration : ℕ = configuration_number side (miss_context file strand side) in
      rw (configuration_of, tag_access_lem a strand s side d, a.registers strand configuration s (omega (arith, set_below))) (omega arith)

  code_listed_lem : listed (tsb_code file strand side 0) ≡ true
  code_listed_lem =
      configuration-listed file strand (configuration_number side (miss_context file strand side)) 0 a.allowed s (omega (arith, set_below))
      (omega (arith, set_below)) (omega arith)

  pub table-alike : (of_zero of_other : Bytes) → table_for l strand side of_zero of_other ≡ table_used file strand side of_zero of_other
  table-alike of_zero of_other = rw (tag_access_lem a strand s side d)

  length-alike : table_bytes l strand side ≡ table_length file strand side
  length-alike = rw (base-alike, pow-add 2 9 (tsb_base file strand side 0 % 16)) (omega arith)

  -- a pointer from a base of N alone is the offset
  pub start-alike : entry_place l strand side ≡ entry_start file strand side
  unfolding entry_place pointer_of tsb_offset
  start-alike =
      let m : ℕ = tsb_base file strand side 0 % 16 in
      let same : m % 16 ≡ m = mod-eq_of_lt (omega arith) in
      let small : m < 2 ^ (13 + m) = omega (arith, pow_mono {i = 13} {j = 13 + m} (omega arith)) in
      rw (
        base-alike,
        code_alike,
        tag_access_lem a strand s side d,
        same,
        mod-eq_of_lt small,
        code_bytes_lem (tsb_code file strand side 0) code_listed_lem,
        round-down (tag_access file strand side) 8192,
      ) (omega arith)

  fit-alike : (tag word : ℕ) → (tag_agrees l strand side tag && word_agrees l strand side word) ≡ entry_fits file strand side tag word
  unfolding tag_agrees entry_fits tag_fits word_fits
  fit-alike tag word =
      let t : ℕ = tag_access file strand side in
      let c : ℕ = (tag_address t).0 in
      let fine : t / 0x40_0000 % 2 ^ 42 ≡ bits 22 42 c = omega arith in
      let coarse : t / 0x1000_0000 % 2 ^ 36 ≡ bits 28 36 c = omega arith in
      rw (
        tag_access_lem a strand s side d,
        code_alike,
        live-word word,
        fine,
        coarse,
        tag-whole tag (t % 8192) (bits 22 42 c) (omega arith),
        tag-coarse tag (t % 8192) (bits 28 36 c) (omega arith),
      )
      (by-test (eqb (tsb_code file strand side 0) 5) (λ e. rw e) (λ e. rw e))

  -- the entry, where the table has its length
  miss_in_lem : (t : Bytes) → length t ≡ table_length file strand side →
      let at : ℕ = entry_start file strand side in
      miss_in l strand side (drop at t) ≡ cond (entry_fits file strand side (eight t at) (eight t (at + 8))) (present (eight t (at + 8))) absent
  unfolding miss_in
  miss_in_lem t h =
      let at : ℕ = entry_start file strand side in
      let room : at + 16 ≤ length t = rw h (entry-within _ _ _) in
      rw (drop-drop, ← (eight-from t at (omega arith)), ← (eight-from t (at + 8) (omega arith)), fit-alike)

-- ---- what 5, 6 and 14 let pass
pub record TableLent (u : State) (strand side : ℕ) (of_zero of_other : Bytes) : Type 0 where
  pub strands : strand < 4
  pub sides : side < 2
  pub size : length (table_used u.registers strand side of_zero of_other) ≡ table_length u.registers strand side

pub table-lent : (u : State) (strand side : ℕ) (of_zero of_other : Bytes) → ask (asked_table u strand side of_zero of_other) ≡ Ok tt
    → TableLent u strand side of_zero of_other
unfolding asked_table all_of
table-lent u strand side of_zero of_other v =
    let q = ask-fine (asked_table u strand side of_zero of_other) v in
    record { strands = search conj; sides = search conj; size = search conj }

-- ---- what serving comes to: a refusal, no fit, or an insertion for a strand and a side that there are
pub data MissAlike (u : State) (strand side : ℕ) : Miss → Stepped → Type 0 where
  refuses : (r : Refusal) → MissAlike u strand side (refused (refusal_number r)) (stepped u (answer.Refused r))
  lacks : MissAlike u strand side absent (stepped u answer.NotInTable)
  inserts : (word : ℕ) → strand < 4 → side < 2 → MissAlike u strand side (present word) (insert_step u strand side 0 word)

module _ {n : Counts} {u : State} {l : Ledger} (a : Alike n u l) (strand side : ℕ) (of_zero of_other : Bytes) where
  -- 5, 6 and 14
  size-alike : strand < 4 → side < 2 → eqb (length (table_for l strand side of_zero of_other)) (table_bytes l strand side)
      ≡ eqb (length (table_used u.registers strand side of_zero of_other)) (table_length u.registers strand side)
  size-alike s d = rw (table-alike a strand side s d of_zero of_other, length-alike a strand side s d)

  table-in_step : InStep true (asked_table u strand side of_zero of_other) (miss_questions l strand side of_zero of_other)
  unfolding asked_table miss_questions
  table-in_step =
      next (at_most strand 3) (λ s. next (at_most side 1) (λ d. next (size-alike (ltb-true _ _ s) (ltb-true _ _ d)) (λ _. done refl)))

  pub table-number : verdict_number (ask (asked_table u strand side of_zero of_other)) ≡ first_no (miss_questions l strand side of_zero of_other)
  table-number =
      let x : ℕ = first_no (miss_questions l strand side of_zero of_other) in
      first_no_lem table-in_step ∙ by-test (eqb x 0) (λ e. rw e (sym (eqb-true x 0 e))) (λ e. rw e)

  pub miss-alike : MissAlike u strand side (miss l strand side of_zero of_other) (serve u strand side of_zero of_other)
  unfolding miss serve
  miss-alike = go (ask (asked_table u strand side of_zero of_other)) refl
    where
      table : Bytes
      table = table_used u.registers strand side of_zero of_other

      go : (v : Result (Unit {0}) Refusal) → ask (asked_table u strand side of_zero of_other) ≡ v
          → MissAlike u strand side (miss l strand side of_zero of_other) (serve_by v u strand side table)
      go (Err r) e =
          let f : first_no (miss_questions l strand side of_zero of_other) ≡ refusal_number r = sym table-number ∙ rw e in
          rw (f, ne_eqb _ 0 (refusal-positive r)) (refuses r)
      go (Ok _) e =
          let f : first_no (miss_questions l strand side of_zero of_other) ≡ 0 = sym table-number ∙ rw e in
          let t = table-lent u strand side of_zero of_other e in
          rw (
            f,
            table-alike a strand side t.strands t.sides of_zero of_other,
            start-alike a strand side t.strands t.sides,
            miss_in_lem a strand side t.strands t.sides table t.size,
          )
          (by-test (entry_fits u.registers strand side (eight table (entry_start u.registers strand side))
          (eight table (entry_start u.registers strand side + 8)))
          (λ g. rw g (inserts _ t.strands t.sides))
          (λ g. rw g lacks))

  -- ---- what is handed back
  pub hands : Hands l strand side of_zero of_other (part_by (ask (asked_table u strand side of_zero of_other)) u.registers strand side)
  hands = go (ask (asked_table u strand side of_zero of_other)) refl
    where
      go : (v : Result (Unit {0}) Refusal) → ask (asked_table u strand side of_zero of_other) ≡ v → Hands l strand side of_zero of_other (part_by v u.registers strand side)
      go (Err r) e = record {
        number = rw e at table-number;
        refused = λ _. (refl, refl, refl);
        handed = λ z. absurd (refusal-positive r z);
        within = λ z. absurd (refusal-positive r z);
      }
      go (Ok _) e =
          let t = table-lent u strand side of_zero of_other e in
          record {
            number = rw e at table-number;
            refused = λ z. absurd (z refl);
            handed = λ _. (rw (tag_access_lem a strand t.strands side t.sides), sym (start-alike a strand side t.strands t.sides), refl);
            within = λ _. rw (table-alike a strand side t.strands t.sides of_zero of_other, t.size) (entry-within _ _ _);
          }
