use Rattle.clear_laws.proofs.Registers.{nothing_apart}
use Rattle.clear_laws.proofs.nothing_law.Goals as goal

pub returns : goal.returns
returns c = nothing_apart
