use Rattle.valid_laws.proofs.Blocks.{physical-terminators}
use Rattle.valid_laws.proofs.terminators_law.Goals as goal

pub returns : goal.returns
returns c = physical-terminators
