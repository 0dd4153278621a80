use Rattle.run_end_laws.proofs.Moved.{moved-is-correct}
use Rattle.run_end_laws.proofs.moved_end_law.Goals as goal

pub returns : goal.returns
returns c = moved-is-correct
