use Rattle.laws.proofs.Monotone.{monotone}
use Rattle.laws.proofs.monotone_law.Goals as goal

pub returns : goal.returns
returns c = monotone
