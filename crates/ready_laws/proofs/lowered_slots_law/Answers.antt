use Rattle.ready_laws.proofs.NoSlots.{lowered-has-no-slots}
use Rattle.ready_laws.proofs.lowered_slots_law.Goals as goal

pub returns : goal.returns
returns c = lowered-has-no-slots
