use Rattle.valid_laws.proofs.LiveUnits.{physical-live-units}
use Rattle.valid_laws.proofs.units_law.Goals as goal

pub returns : goal.returns
returns c = physical-live-units
