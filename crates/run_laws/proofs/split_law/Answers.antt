use Rattle.run_laws.proofs.Asked.{in_run_may_split}
use Rattle.run_laws.proofs.split_law.Goals as goal

pub returns : goal.returns
returns c = in_run_may_split
