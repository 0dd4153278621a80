use Rattle.instr_effects.proofs.Plain.{plain-law}
use Rattle.instr_effects.proofs.laws.plain_law.Goals as goal

pub returns : goal.returns
returns c = plain-law
