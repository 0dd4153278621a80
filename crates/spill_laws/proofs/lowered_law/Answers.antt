use Rattle.spill_laws.proofs.InForm.{spill_keeps_lowered}
use Rattle.spill_laws.proofs.lowered_law.Goals as goal

pub returns : goal.returns
returns c = spill_keeps_lowered
