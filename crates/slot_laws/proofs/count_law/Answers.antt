use Rattle.slot_laws.proofs.Fewer.{moving-keeps-count}
use Rattle.slot_laws.proofs.count_law.Goals as goal

pub returns : goal.returns
returns c = moving-keeps-count
