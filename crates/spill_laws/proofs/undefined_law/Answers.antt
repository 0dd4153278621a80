use Rattle.spill_laws.proofs.Copies.{undefined_keep_rules}
use Rattle.spill_laws.proofs.undefined_law.Goals as goal

pub returns : goal.returns
returns c = undefined_keep_rules
