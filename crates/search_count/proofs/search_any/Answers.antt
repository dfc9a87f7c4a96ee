-- `search_count::search_any` meets its contract: a key that passes the test fits.
use mathlib.Core.Path.{◌≡◌, sym, ◌∙◌}
use Prim.Native.Nat.{◌^◌}
use mathlib.Core.Bool.{true}
use lib.Dec.{ltb}
use borrow.Author.Tests.{ltb-true}
use Rattle.laws.proofs.Bools.{and_left, and_right}
use Rattle.machine.specs.Slots.{KeyFits}
use Rattle.machine.specs.declared.Key.{Key}
use Rattle.machine.specs.declared.Key.TheVariants.{Virtual, Real}
use Rattle.search_count.specs.Counted.{fits, searched_any}
use Rattle.search_count.proofs.search_any.Goals as goal

key_fits : (key : Key) → fits key ≡ true → KeyFits key
key_fits (Virtual partition context address) h = (ltb-true partition 8 (and_left _ _ h), ltb-true context (2 ^ 13) (and_right (ltb partition 8) _ h))
key_fits (Real partition address) h = ltb-true partition 8 h

pub search-requires : goal.search-requires
search-requires c =
    let both = sym c.searchable.ensures ∙ c.if-searchable.true in
    let key = c.args.key in
    (and_right (fits key) _ both, key_fits key (and_left _ _ both))

pub returns-then-searchable : goal.returns-then-searchable
unfolding searched_any
returns-then-searchable c = rw (sym c.searchable.ensures ∙ c.if-searchable.true) c.search.ensures

pub returns : goal.returns
unfolding searched_any
returns c = rw (sym c.searchable.ensures ∙ c.if-searchable.false)
