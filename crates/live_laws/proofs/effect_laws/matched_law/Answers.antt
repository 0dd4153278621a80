use Rattle.live_laws.proofs.Effects.Instrs.{matched-law}
use Rattle.live_laws.proofs.effect_laws.matched_law.Goals as goal

pub returns : goal.returns
returns c = matched-law
