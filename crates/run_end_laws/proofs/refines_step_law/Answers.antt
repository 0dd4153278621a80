use Rattle.run_end_laws.proofs.Refining.{step-refines}
use Rattle.run_end_laws.proofs.refines_step_law.Goals as goal

pub returns : goal.returns
returns c = step-refines
