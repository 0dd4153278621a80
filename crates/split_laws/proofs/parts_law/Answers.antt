use Rattle.split_laws.proofs.Others.{range_shared}
use Rattle.split_laws.proofs.parts_law.Goals as goal

pub returns : goal.returns
returns c = range_shared
