use Rattle.spill_laws.proofs.Beside.{besides_keep_rules}
use Rattle.spill_laws.proofs.besides_law.Goals as goal

pub returns : goal.returns
returns c = besides_keep_rules
