use Rattle.run_laws.proofs.Runs.{run_without_spills_refines}
use Rattle.run_laws.proofs.splits_law.Goals as goal

pub returns : goal.returns
returns c = run_without_spills_refines
