use Rattle.ready_laws.proofs.Runs.{splits-keep-start}
use Rattle.ready_laws.proofs.splits_start_law.Goals as goal

pub returns : goal.returns
returns c = splits-keep-start
