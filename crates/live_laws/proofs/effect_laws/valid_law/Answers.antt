use Rattle.live_laws.proofs.Effects.Valid.{valid-law}
use Rattle.live_laws.proofs.effect_laws.valid_law.Goals as goal

pub returns : goal.returns
returns c = valid-law
