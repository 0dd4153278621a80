use Rattle.lowering_laws.proofs.LoweredRules.{lowered_is_splittable}
use Rattle.lowering_laws.proofs.splittable_law.Goals as goal

pub returns : goal.returns
returns c = lowered_is_splittable
