use Rattle.clear_laws.proofs.Registers.{end_clear}
use Rattle.clear_laws.proofs.end_law.Goals as goal

pub returns : goal.returns
returns c = end_clear
