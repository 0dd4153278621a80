use Rattle.clear_laws.proofs.SpillKept.{places_are_kept}
use Rattle.clear_laws.proofs.SpillPoints.{spill_slots_by}
use Rattle.clear_laws.proofs.spill_slots_law.Goals as goal

pub returns : goal.returns
returns c = spill_slots_by places_are_kept
