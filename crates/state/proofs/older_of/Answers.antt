-- `state::older_of` meets its contract.
use Prim.Native.Nat.{ℕ, zero, suc, ◌+◌, ◌*◌, ◌/◌, ◌<◌}
use mathlib.Core.List.{List, []}
use mathlib.Core.Path.{◌≡◌, refl, ap, ◌∙◌}
use native.Mathlib.Omega.{arith}
use lib.ListN.{length, get_or, take, drop, length-drop}
use lib.Seq.{drop-drop, take_all}
use Rattle.std.specs.Simd.{first_chunks}
use Rattle.state.proofs.Lookups.{older-at}
use Rattle.state.proofs.older_of.Goals as goal

-- chunk i of a list
chunk-at : (n chunks : ℕ) (words : List ℕ) (i : ℕ) → i < chunks → get_or (first_chunks n chunks words) i [] ≡ take n (drop (i * n) words)
chunk-at n zero words i h = absurd (omega arith)
chunk-at n (suc k) words zero h = let none : 0 * n ≡ 0 = omega arith in rw none refl
chunk-at n (suc k) words (suc i) h =
    let later : n + i * n ≡ suc i * n = grind arith in
    chunk-at n k (drop n words) i (omega arith) ∙ ap (take n) (drop-drop (i * n) n words ∙ ap (λ m. drop m words) later)

pub returns : goal.returns
returns c =
    let words = c.args.state.now in
    let r = c.args.number in
    let behind : take 120 (drop 656 words) ≡ drop 656 words = take_all 120 (drop 656 words) (omega (arith, c.told-state, length-drop 656 words)) in
    let chunks : length (drop 656 words) / 15 ≡ 8 = omega (arith, c.told-state, length-drop 656 words) in
    rw (c.as_chunks.ensures.front, behind, chunks) (chunk-at 15 8 (drop 656 words) r c.requires ∙ ap (take 15) (drop-drop (r * 15) 656 words) ∙ older-at words c.told-state r c.requires)
