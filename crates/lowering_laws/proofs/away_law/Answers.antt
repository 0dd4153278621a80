use Rattle.lowering_laws.proofs.LoweredForm.{none_lowered_away}
use Rattle.lowering_laws.proofs.away_law.Goals as goal

pub returns : goal.returns
returns c = none_lowered_away
