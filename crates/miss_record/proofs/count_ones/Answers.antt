-- `miss_record::count_ones` meets its contract: the sum counts the bits of the words but the last, which comes behind it.
use Prim.Native.Nat.{ℕ, zero, suc, ◌+◌, ◌*◌, ◌≤◌, ◌<◌, ◌^◌}
use mathlib.Core.List.{List}
use mathlib.Core.Path.{◌≡◌, refl, ◌∙◌}
use native.Mathlib.Omega.{arith}
use lib.Count.{ones, ones-le}
use lib.ListN.{length, get_or, take}
use Rattle.std.proofs.Common.{rules, tests}
use Rattle.std.specs.Prelude.{sum_by}
use Rattle.std.proofs.iter.runs.Made.{chains}
use Rattle.std.proofs.lemmas.Iterator.{YieldsList-from_slice, YieldsList-from_map}
use Rattle.std.proofs.lemmas.Iterator.Consumers.{fits_by_from_yields_list}
use Rattle.std.proofs.lemmas.List.Sums.{sum_by_more}
use Rattle.machine.specs.Record.{ones_of}
use Rattle.miss_record.proofs.count_ones.Goals as goal

-- the sum over the first n words
counted : (words : List ℕ) (n : ℕ) → n ≤ length words → sum_by ones (take n words) ≡ ones_of words n
unfolding ones_of
counted words zero l = refl
counted words (suc n) l =
    let one : n + 1 ≡ suc n = omega arith in
    rw (rw one at (sum_by_more ones words n 0 (omega arith)), counted words n (omega arith))

-- each word has at most 64 bits set
few_in : (words : List ℕ) → ((i : ℕ) → get_or words i 0 < 2 ^ 64) → (i : ℕ) → ones (get_or words i 0) ≤ 64
few_in words h i = ones-le 64 (get_or words i 0) (h i)

few : (words : List ℕ) → ((i : ℕ) → get_or words i 0 < 2 ^ 64) → (n : ℕ) → ones_of words n ≤ 64 * n
unfolding ones_of
few words h zero = omega arith
few words h (suc n) = omega (arith, few words h n, few_in words h n)

pub sum-paired-requires-clause-fits : goal.sum-paired-requires-clause-fits
sum-paired-requires-clause-fits c =
    let words = c.args.words.now in
    fits_by_from_yields_list ones (take 14 words) c.map.result _ (YieldsList-from_map _ ones (YieldsList-from_slice (take 14 words) cc) c.map.ensures.closure (λ x r q k. search (rules, tests)))
    (omega (arith, counted words 14 (omega arith), few words c.fits-words 14))

-- the sum is of the words but the last
summed : (c : goal.After-from) → c.sum-paired.result ≡ ones_of c.args.words.now 14
summed c =
    let told : c.sum-paired.result ≡ sum_by ones (take 14 c.args.words.now) = search (rules, chains) in
    told ∙ counted c.args.words.now 14 (omega arith)

pub overflow_add-result : goal.overflow_add-result
overflow_add-result c = omega (arith, summed c, few c.args.words.now c.fits-words 14, few_in c.args.words.now c.fits-words)

pub returns-clause-count : goal.returns-clause-count
unfolding ones_of
returns-clause-count c = rw (summed c, c.from.ensures)

pub returns-clause-small : goal.returns-clause-small
returns-clause-small c = omega (arith, summed c, few c.args.words.now c.fits-words 14, few_in c.args.words.now c.fits-words)
