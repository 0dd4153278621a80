use Rattle.state_laws.proofs.Separate.{state_stands_clear}
use Rattle.state_laws.proofs.clear.clear_law.Goals as goal

pub returns : goal.returns
returns c = state_stands_clear
