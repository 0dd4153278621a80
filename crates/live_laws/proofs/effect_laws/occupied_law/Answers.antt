use Rattle.live_laws.proofs.Effects.Numbered.{occupied-law}
use Rattle.live_laws.proofs.effect_laws.occupied_law.Goals as goal

pub returns : goal.returns
returns c = occupied-law
