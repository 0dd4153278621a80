use Rattle.spill_laws.proofs.Copies.{moves_keep_rules}
use Rattle.spill_laws.proofs.moves_law.Goals as goal

pub returns : goal.returns
returns c = moves_keep_rules
