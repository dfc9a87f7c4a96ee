-- What the questions of a miss come to: where they passed, the entry lies within the table used, is handed back and decides; a refusal changes nothing.
-- Assumes nothing.
use Rattle.std.proofs.Common.{Ok, Err}
use Prim.Native.Nat.{ℕ, ◌+◌, ◌*◌, ◌^◌, ◌<◌, ◌≤◌}
use mathlib.Core.Path.{◌≡◌, ap, ◌∙◌}
use mathlib.Core.Bool.{true, false}
use mathlib.Core.List.{List}
use native.Mathlib.Nat.{add-zero, add_assoc}
use native.Mathlib.Omega.{arith}
use lib.ListN.{length, take, drop}
use lib.Pow.{pow_mono}
use lib.Seq.{get_or-take, get_or-drop}
use Rattle.laws.proofs.Bools.{by-test}
use Rattle.machine.specs.State.{counts, state_in, words_sound}
use Rattle.machine.specs.Questions.{ask}
use Rattle.machine.specs.Stream.{Bytes, byte, eight}
use Rattle.machine.specs.Serve.{is_zero_context, table_used, entry_start, asked_table, part_by, part_bytes}
use Rattle.machine.specs.Serve.{serve_entry, serve, served_as, served_of}
use Rattle.machine.specs.declared.Refusal.{Refusal}
use Rattle.machine.specs.declared.Answer.TheVariants as answer
use Rattle.machine.proofs.State.{encode-state, sound-words}
use Rattle.machine.proofs.Misses.{table-lent, entry-within}
use Rattle.miss_handler.specs.Ready.{Ready, entry_bytes}

-- a table's length fits a word
pub table-small : (n : ℕ) → n < 16 → 16 * 2 ^ (9 + n) < 2 ^ 64
table-small n h = omega (arith, pow_mono {i = 9 + n} {j = 24} (omega arith))

-- eight bytes of an entry are read in it as in its table
entry-eight : (table : Bytes) (start i : ℕ) → i ≤ 8 → eight (take 16 (drop start table)) i ≡ eight table (start + i)
unfolding eight
entry-eight table start i h =
    let at : (k : ℕ) → k < 16 → byte (take 16 (drop start table)) k ≡ byte table (start + k) =
    λ k l. get_or-take 16 (drop start table) k 0 l ∙ get_or-drop start table k 0 in
    rw (
      at i (omega arith),
      at (i + 1) (omega arith),
      at (i + 2) (omega arith),
      at (i + 2 + 1) (omega arith),
      at (i + 4) (omega arith),
      at (i + 4 + 1) (omega arith),
      at (i + 4 + 2) (omega arith),
      at (i + 4 + 2 + 1) (omega arith),
    ) (simp add_assoc)

entry-tag : (table : Bytes) (start : ℕ) → eight (take 16 (drop start table)) 0 ≡ eight table start
entry-tag table start = entry-eight table start 0 (omega arith) ∙ ap (eight table) (add-zero start)

module _ (words : List ℕ) (strand side : ℕ) (of_zero of_other : Bytes) where
  pub miss-ready : words_sound counts words ≡ true → ask (asked_table (state_in words) strand side of_zero of_other) ≡ Ok tt
      → Ready words strand side of_zero of_other
  miss-ready e h =
      let t = table-lent (state_in words) strand side of_zero of_other h in
      record { sound = (sound-words counts words e).0; table = t.size }

  pub entry_in-table : Ready words strand side of_zero of_other
      → entry_start (state_in words).registers strand side + 16 ≤ length (table_used (state_in words).registers strand side of_zero of_other)
  entry_in-table r = rw r.table (entry-within _ _ _)

  -- number 1 and a refusal leave the words
  pub served-unsound : words_sound counts words ≡ false → served_of counts words strand side of_zero of_other ≡ record { words = words; answer = answer.Unsound }
  unfolding served_of
  served-unsound e = rw e

  pub served-refused : {r : Refusal} → words_sound counts words ≡ true → ask (asked_table (state_in words) strand side of_zero of_other) ≡ Err r
      → served_of counts words strand side of_zero of_other ≡ record { words = words; answer = answer.Refused r }
  unfolding served_of serve
  served-refused e h = rw (e, h, encode-state counts words (sound-words counts words e).1)

  -- else the entry decides: its tag, then its word
  pub served-passed : words_sound counts words ≡ true → ask (asked_table (state_in words) strand side of_zero of_other) ≡ Ok tt →
      let entry : Bytes = entry_bytes (state_in words).registers strand side of_zero of_other in
      served_of counts words strand side of_zero of_other ≡ served_as (serve_entry (state_in words) strand side (eight entry 0) (eight entry 8))
  unfolding served_of serve
  served-passed e h = rw (e, h, entry-tag, entry-eight _ _ 8 (omega arith))

-- the part that is handed back of a miss that passed
pub part-entry : (file : List ℕ) (strand side : ℕ) (of_zero of_other : Bytes)
    → part_bytes (part_by (Ok tt) file strand side) of_zero of_other ≡ entry_bytes file strand side of_zero of_other
part-entry file strand side of_zero of_other = by-test (is_zero_context file strand side) (λ e. rw e) (λ e. rw e)
