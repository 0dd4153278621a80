use Rattle.spill_laws.proofs.Assembled.{all_stand_refine}
use Rattle.spill_laws.proofs.assembled_law.Goals as goal

pub returns : goal.returns
returns c = all_stand_refine
