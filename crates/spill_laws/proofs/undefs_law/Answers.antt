use Rattle.spill_laws.proofs.LoweredUndefs.{lowered_has_fixed_undefs}
use Rattle.spill_laws.proofs.undefs_law.Goals as goal

pub returns : goal.returns
returns c = lowered_has_fixed_undefs
