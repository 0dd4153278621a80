use Rattle.state_laws.proofs.Ways.{step-keeps-ways}
use Rattle.state_laws.proofs.passes.ways_law.Goals as goal

pub returns : goal.returns
returns c = step-keeps-ways
