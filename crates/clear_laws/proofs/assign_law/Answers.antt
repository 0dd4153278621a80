use Rattle.clear_laws.proofs.Registers.{assign_apart}
use Rattle.clear_laws.proofs.assign_law.Goals as goal

pub returns : goal.returns
returns c = assign_apart
