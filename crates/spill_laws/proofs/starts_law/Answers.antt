use Rattle.spill_laws.proofs.Ends.{starts_stand}
use Rattle.spill_laws.proofs.starts_law.Goals as goal

pub returns : goal.returns
returns c = starts_stand
