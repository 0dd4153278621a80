use Rattle.valid_laws.proofs.Slots.{physical-slots}
use Rattle.valid_laws.proofs.slots_law.Goals as goal

pub returns : goal.returns
returns c = physical-slots
