use Rattle.instr_effects.proofs.CountedSteps.{counted-law}
use Rattle.instr_effects.proofs.laws.counted_law.Goals as goal

pub returns : goal.returns
returns c = counted-law
