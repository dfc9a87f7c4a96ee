-- `state::sound_mut` meets its contract.
use mathlib.Core.Path.{refl}
use Rattle.state.proofs.Lent.{sound-array}
use Rattle.state.proofs.sound_mut.Goals as goal

pub returns : goal.returns
returns c = (
  refl,
  record {
    cases = sound-array _ (λ s. s.now) _ c.in_ok-sound.ensures.0 c.as_mut_array.ensures.cases;
    writes_back = tt;
  },
)
