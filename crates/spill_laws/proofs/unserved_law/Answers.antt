use Rattle.spill_laws.proofs.TinyMoves.{unserved_stored}
use Rattle.spill_laws.proofs.unserved_law.Goals as goal

pub returns : goal.returns
returns c = unserved_stored
