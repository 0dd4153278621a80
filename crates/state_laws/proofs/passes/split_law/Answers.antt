use Rattle.state_laws.proofs.Spilling.{state-may-split}
use Rattle.state_laws.proofs.passes.split_law.Goals as goal

pub returns : goal.returns
returns c = state-may-split
