use Rattle.live_laws.proofs.Touch.Known.{known-law}
use Rattle.live_laws.proofs.touch_laws.known_law.Goals as goal

pub returns : goal.returns
returns c = known-law
