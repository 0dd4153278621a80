use Rattle.live_laws.proofs.Effects.Numbered.{number-law}
use Rattle.live_laws.proofs.effect_laws.number_law.Goals as goal

pub returns : goal.returns
returns c = number-law
