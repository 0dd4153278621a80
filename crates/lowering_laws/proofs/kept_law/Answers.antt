use Rattle.lowering_laws.proofs.LoweredRules.{lowered_keeps_rules}
use Rattle.lowering_laws.proofs.kept_law.Goals as goal

pub returns : goal.returns
returns c = lowered_keeps_rules
