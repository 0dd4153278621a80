use Rattle.state_laws.proofs.Spilling.{state-may-spill}
use Rattle.state_laws.proofs.passes.spill_law.Goals as goal

pub returns : goal.returns
returns c = state-may-spill
