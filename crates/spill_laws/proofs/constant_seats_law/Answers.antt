use Rattle.spill_laws.proofs.ConstantSeats.{constant_seats_stand}
use Rattle.spill_laws.proofs.constant_seats_law.Goals as goal

pub returns : goal.returns
returns c = constant_seats_stand
