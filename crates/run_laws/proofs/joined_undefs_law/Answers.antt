use Rattle.run_laws.proofs.Joins.{joined_keeps_undefs}
use Rattle.run_laws.proofs.joined_undefs_law.Goals as goal

pub returns : goal.returns
returns c = joined_keeps_undefs
