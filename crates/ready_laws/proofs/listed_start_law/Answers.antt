use Rattle.ready_laws.proofs.Starts.{listed-has-start}
use Rattle.ready_laws.proofs.listed_start_law.Goals as goal

pub returns : goal.returns
returns c = listed-has-start
