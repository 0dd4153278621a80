use Rattle.run_end_laws.proofs.Reached.{allocating-is-reached}
use Rattle.run_end_laws.proofs.reached_law.Goals as goal

pub returns : goal.returns
returns c = allocating-is-reached
