-- `examples::commands::command` meets its contract: the bytes before, and behind them those of the value.
use Prim.Native.Nat.{ℕ}
use mathlib.Core.List.{List, [], ◌∷◌, ◌++◌, append-nil}
use mathlib.Core.Path.{◌≡◌}
use borrow.Author.Rules.{rules}
use borrow.Rule.Slice.PartMut.{put_mid}
use lib.ListN.{length}
use lib.Seq.{take_at, drop_at}
use Rattle.examples.proofs.commands.command.Goals as goal

behind : (before value : List ℕ) → length before ≡ 5 → put_mid 5 8 (before ++ 0 ∷ 0 ∷ 0 ∷ 0 ∷ 0 ∷ 0 ∷ 0 ∷ 0 ∷ []) value ≡ before ++ value
behind before value e =
    let zeros : List ℕ = 0 ∷ 0 ∷ 0 ∷ 0 ∷ 0 ∷ 0 ∷ 0 ∷ 0 ∷ [] in
    rw (take_at before zeros 5 e, drop_at before zeros 5 e, append-nil)

pub returns : goal.returns
returns c =
    let n : length c.copy_from_slice.new.self ≡ 5 = search rules in
    rw (← c.to_be_bytes.ensures, ← c.copy_from_slice-2.ensures.after, ← c.copy_from_slice.ensures.after) (behind _ _ n)
