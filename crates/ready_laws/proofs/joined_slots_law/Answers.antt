use Rattle.ready_laws.proofs.NoSlots.{joined-has-no-slots}
use Rattle.ready_laws.proofs.joined_slots_law.Goals as goal

pub returns : goal.returns
returns c = joined-has-no-slots
