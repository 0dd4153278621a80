use Rattle.live_laws.proofs.Effects.Instrs.{instr-law}
use Rattle.live_laws.proofs.effect_laws.instr_law.Goals as goal

pub returns : goal.returns
returns c = instr-law
