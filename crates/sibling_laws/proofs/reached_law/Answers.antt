use Rattle.sibling_laws.proofs.Runs.{reached-from-is-reached-with}
use Rattle.sibling_laws.proofs.reached_law.Goals as goal

pub returns : goal.returns
returns c = reached-from-is-reached-with
