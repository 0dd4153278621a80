use Rattle.clear_laws.proofs.Registers.{points_apart}
use Rattle.clear_laws.proofs.points_law.Goals as goal

pub returns : goal.returns
returns c = points_apart
