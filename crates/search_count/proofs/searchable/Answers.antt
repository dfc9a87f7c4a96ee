-- `search_count::searchable` meets its contract.
use mathlib.Core.Path.{sym, ◌∙◌}
use Rattle.search_count.proofs.searchable.Goals as goal

pub returns-then-not-fits : goal.returns-then-not-fits
returns-then-not-fits c = rw (sym c.fits.ensures ∙ c.if-not-fits.true)

pub returns : goal.returns
returns c = rw (sym c.fits.ensures ∙ c.if-not-fits.false) c.side_sound.ensures
