-- `registers::file_sound` meets its contract: strand by strand.
use Prim.Native.Nat.{ℕ, ◌/◌}
use mathlib.Core.Bool.{Bool}
use mathlib.Core.List.{List}
use mathlib.Core.Path.{◌≡◌, ◌∙◌}
use Rattle.std.proofs.Common.{arith, rules, tests}
use Rattle.std.proofs.lemmas.Iterator.{YieldsList-from_slice}
use Rattle.std.proofs.lemmas.Iterator.Search.{all_from_yields_List}
use Rattle.std.specs.List.{list_all}
use lib.ListN.{length}
use Rattle.laws.specs.Tests.{all_below}
use Rattle.machine.specs.Registers.{registers_sound}
use Rattle.registers.proofs.Ranges.{cell_fits}
use Rattle.registers.proofs.Strands.{strands-fit}
use Rattle.registers.proofs.file_sound.Goals as goal

-- whether a strand fits
abbrev strand : List ℕ → Bool
strand cells = all_below (cell_fits cells) 32

pub returns-then-file-eq-REGISTER_WORDS : goal.returns-then-file-eq-REGISTER_WORDS
unfolding registers_sound
returns-then-file-eq-REGISTER_WORDS c =
    let strands = c.as_chunks.result.0.now in
    let told : c.all.result ≡ list_all strand strands =
    all_from_yields_List strand _ _ c.all.result c.all.ensures.ran (YieldsList-from_slice strands cc) (λ x b q k. search (rules, tests)) in
    let cut : length c.args.file.now / 32 ≡ 4 = omega arith in
    rw (c.if-file-eq-REGISTER_WORDS.true) (told ∙ rw (c.as_chunks.ensures.front, cut) (strands-fit 4 c.args.file.now (omega arith)))

pub returns-else-file-eq-REGISTER_WORDS : goal.returns-else-file-eq-REGISTER_WORDS
unfolding registers_sound
returns-else-file-eq-REGISTER_WORDS c = grind arith
