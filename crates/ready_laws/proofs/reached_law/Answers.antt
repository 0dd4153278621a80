use Rattle.ready_laws.proofs.Runs.{reached-with-is-reached}
use Rattle.ready_laws.proofs.reached_law.Goals as goal

pub returns : goal.returns
returns c = reached-with-is-reached
