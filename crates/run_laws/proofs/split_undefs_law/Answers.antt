use Rattle.run_laws.proofs.Splits.{split_keeps_undefs}
use Rattle.run_laws.proofs.split_undefs_law.Goals as goal

pub returns : goal.returns
returns c = split_keeps_undefs
