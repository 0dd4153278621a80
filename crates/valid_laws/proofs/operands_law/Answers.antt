use Rattle.valid_laws.proofs.Fitting.{physical-operands}
use Rattle.valid_laws.proofs.operands_law.Goals as goal

pub returns : goal.returns
returns c = physical-operands
