use Rattle.run_end_laws.proofs.Ends.{allocated-refines}
use Rattle.run_end_laws.proofs.refines_end_law.Goals as goal

pub returns : goal.returns
returns c = allocated-refines
