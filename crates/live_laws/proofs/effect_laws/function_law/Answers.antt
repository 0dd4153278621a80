use Rattle.live_laws.proofs.Effects.Whole.{function-law}
use Rattle.live_laws.proofs.effect_laws.function_law.Goals as goal

pub returns : goal.returns
returns c = function-law
