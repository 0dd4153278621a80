use Rattle.state_laws.proofs.FreeRegisters.{free_is_free_for}
use Rattle.state_laws.proofs.clear.free_law.Goals as goal

pub returns : goal.returns
returns c = free_is_free_for
