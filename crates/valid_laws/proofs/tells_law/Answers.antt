use Rattle.valid_laws.proofs.Liveins.{found-units-tell}
use Rattle.valid_laws.proofs.tells_law.Goals as goal

pub returns : goal.returns
returns c = found-units-tell
