use Rattle.clear_laws.proofs.Registers.{unassign_apart}
use Rattle.clear_laws.proofs.unassign_law.Goals as goal

pub returns : goal.returns
returns c = unassign_apart
