-- `tlb::reach_of` meets its contract: the page starts at the address rounded down, so what is left is the offset.
use Prim.Native.Nat.{ℕ, ◌+◌, ◌-◌}
use mathlib.Core.Path.{◌≡◌}
use mathlib.Core.Bool.{true}
use native.Mathlib.Omega.{arith}
use native.Mathlib.Nat.{mod-lt, lt_of_lt_of_le}
use lib.Pow.{split, pow_pos, pow_mono}
use borrow.Author.Tests.{eqb-true}
use Rattle.machine.specs.Pages.{page_shift, page_start, page_offset}
use Rattle.machine.specs.Slots.{size_code, holds}
use Rattle.machine.specs.declared.Slot.{Slot}
use Rattle.machine.proofs.Pages.{shift_small}
use Rattle.machine.proofs.Matches.{match-within}
use Rattle.tlb.proofs.reach_of.Goals as goal

-- the parts of an address that the page holds
parts : (x : Slot) (a : ℕ) → holds x a ≡ true → a ≡ x.page + page_offset (size_code x) a
parts x a h = omega (arith, split a (page_shift (size_code x)), eqb-true (page_start (size_code x) a) x.page h)

pub returns : goal.returns
returns c =
    let x = c.args.x in
    let a = c.args.address in
    let offset : a - x.page ≡ page_offset (size_code x) a = omega (arith, parts x a c.requires) in record {
      matched = rw (c.size_code.ensures, offset) (match-within x a c.requires);
      small = rw offset (lt_of_lt_of_le (mod-lt a (pow_pos (page_shift (size_code x)))) (pow_mono (shift_small (size_code x))));
    }
