use Rattle.live_laws.proofs.Effects.Moving.{moving-law}
use Rattle.live_laws.proofs.effect_laws.moving_law.Goals as goal

pub returns : goal.returns
returns c = moving-law
