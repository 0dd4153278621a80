use Rattle.live_laws.proofs.Touch.Naming.{naming-law}
use Rattle.live_laws.proofs.touch_laws.naming_law.Goals as goal

pub returns : goal.returns
returns c = naming-law
