use Rattle.run_end_laws.proofs.Refining.{allocating-refines}
use Rattle.run_end_laws.proofs.refines_state_law.Goals as goal

pub returns : goal.returns
returns c = allocating-refines
