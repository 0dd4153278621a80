use Rattle.valid_laws.proofs.Liveins.{physical-liveins}
use Rattle.valid_laws.proofs.liveins_law.Goals as goal

pub returns : goal.returns
returns c = physical-liveins
