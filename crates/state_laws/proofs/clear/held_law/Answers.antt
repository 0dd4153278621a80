use Rattle.state_laws.proofs.FreeRegisters.{free_may_be_held}
use Rattle.state_laws.proofs.clear.held_law.Goals as goal

pub returns : goal.returns
returns c = free_may_be_held
