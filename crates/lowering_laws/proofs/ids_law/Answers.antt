use Rattle.lowering_laws.proofs.Ids.{ids_are_distinct}
use Rattle.lowering_laws.proofs.ids_law.Goals as goal

pub returns : goal.returns
returns c = ids_are_distinct
