use Rattle.mir_func.proofs.ByPlace.{removed_is_deleted}
use Rattle.mir_func.proofs.place_laws.removed_law.Goals as goal

pub returns : goal.returns
returns c = removed_is_deleted
