use Rattle.spill_laws.proofs.TinyMoves.{tiny_moves}
use Rattle.spill_laws.proofs.tiny_moves_law.Goals as goal

pub returns : goal.returns
returns c = tiny_moves
