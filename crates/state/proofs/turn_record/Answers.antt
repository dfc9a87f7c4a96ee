-- `state::turn_record` meets its contract.
use Prim.Native.Nat.{ℕ, ◌+◌, ◌*◌, ◌-◌, ◌<◌}
use mathlib.Core.Path.{◌≡◌}
use mathlib.Core.List.{List, ◌∷◌}
use native.Mathlib.Omega.{arith}
use lib.ListN.{set, get_or, take, drop}
use Rattle.state.proofs.Lent.{Lent}
use Rattle.state.proofs.Parts.{spliced}
use Rattle.state.proofs.Lookups.{Turned, turned-stored}
use Rattle.state.proofs.turn_record.Goals as goal

-- the words once the turned part is back and its last word is stored
turned-words : (words : List ℕ) (r : ℕ) {part : List ℕ} {last : ℕ} → let a = 656 + r * 15 in
    Lent words → r < 8 → part ≡ get_or words (648 + r) 0 ∷ take 14 (take (a + 15 - a) (drop a words))
    → last ≡ get_or (take (a + 15 - a) (drop a words)) 14 0
    → Turned words r (set (spliced a (a + 15 - a) part words) (648 + r) last)
turned-words words r l h p e = turned-stored words l r h (656 + r * 15 + 15 - (656 + r * 15)) _ _ (omega arith) p e

pub returns-then-seen-gt1024 : goal.returns-then-seen-gt1024
returns-then-seen-gt1024 c =
    (turned-words c.args.state.now c.args.number c.told-state c.requires c.turn.ensures.words c.turn.ensures.last).more c.if-seen-gt1024.true

pub returns-else-seen-gt1024 : goal.returns-else-seen-gt1024
returns-else-seen-gt1024 c =
    (turned-words c.args.state.now c.args.number c.told-state c.requires c.turn.ensures.words c.turn.ensures.last).few c.if-seen-gt1024.false
