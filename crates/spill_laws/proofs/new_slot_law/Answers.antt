use Rattle.spill_laws.proofs.Unnamed.{spill_to_new_slot_refines}
use Rattle.spill_laws.proofs.new_slot_law.Goals as goal

pub returns : goal.returns
returns c = spill_to_new_slot_refines
