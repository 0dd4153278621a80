use Rattle.valid_laws.proofs.EndsKept.{alike-keeps-blocks}
use Rattle.valid_laws.proofs.alike_law.Goals as goal

pub returns : goal.returns
returns c = alike-keeps-blocks
