use Rattle.run_laws.proofs.Joins.{join_keeps_undefs}
use Rattle.run_laws.proofs.join_undefs_law.Goals as goal

pub returns : goal.returns
returns c = join_keeps_undefs
