use Rattle.valid_laws.proofs.Blocks.{physical-lowered}
use Rattle.valid_laws.proofs.lowered_law.Goals as goal

pub returns : goal.returns
returns c = physical-lowered
