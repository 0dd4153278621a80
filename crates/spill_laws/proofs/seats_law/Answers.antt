use Rattle.spill_laws.proofs.Seated.{seats_have_classes}
use Rattle.spill_laws.proofs.seats_law.Goals as goal

pub returns : goal.returns
returns c = seats_have_classes
