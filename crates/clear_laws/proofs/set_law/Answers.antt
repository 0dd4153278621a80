use Rattle.clear_laws.proofs.Registers.{set_changes}
use Rattle.clear_laws.proofs.set_law.Goals as goal

pub returns : goal.returns
returns c = set_changes
