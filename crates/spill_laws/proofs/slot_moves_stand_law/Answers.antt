use Rattle.spill_laws.proofs.SlotMoves.{slot_moves_stand}
use Rattle.spill_laws.proofs.slot_moves_stand_law.Goals as goal

pub returns : goal.returns
returns c = slot_moves_stand
