use Rattle.mir_func.proofs.ByPlace.{replaced_is_changed}
use Rattle.mir_func.proofs.place_laws.replaced_law.Goals as goal

pub returns : goal.returns
returns c = replaced_is_changed
