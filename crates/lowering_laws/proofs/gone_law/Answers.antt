use Rattle.lowering_laws.proofs.Blocks.{phis_are_gone}
use Rattle.lowering_laws.proofs.gone_law.Goals as goal

pub returns : goal.returns
returns c = phis_are_gone
