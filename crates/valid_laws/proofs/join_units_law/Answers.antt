use Rattle.valid_laws.proofs.JoinStarts.{join-keeps-units}
use Rattle.valid_laws.proofs.join_units_law.Goals as goal

pub returns : goal.returns
returns c = join-keeps-units
