use Rattle.spill_laws.proofs.Ends.{ends_stand}
use Rattle.spill_laws.proofs.ends_law.Goals as goal

pub returns : goal.returns
returns c = ends_stand
