use Rattle.writable_laws.proofs.PhisFit.{phis_stay_writable}
use Rattle.writable_laws.proofs.phis_law.Goals as goal

pub returns : goal.returns
returns c = phis_stay_writable
