-- `state::sound` meets its contract.
use mathlib.Core.Path.{sym, ◌∙◌}
use Rattle.state.proofs.Lent.{sound-array}
use Rattle.state.proofs.sound.Goals as goal

pub returns : goal.returns
returns c = sound-array _ (λ s. s.now) _ (sym c.state_sound.ensures ∙ c.if-not-state_sound.false) c.as_array.ensures.cases
