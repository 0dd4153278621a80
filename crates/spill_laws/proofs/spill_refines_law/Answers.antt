use Rattle.spill_laws.proofs.Refining.{spill_refines}
use Rattle.spill_laws.proofs.spill_refines_law.Goals as goal

pub returns : goal.returns
returns c = spill_refines
