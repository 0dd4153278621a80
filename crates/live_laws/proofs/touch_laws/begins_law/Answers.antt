use Rattle.live_laws.proofs.Acts.Within.{begins-law}
use Rattle.live_laws.proofs.touch_laws.begins_law.Goals as goal

pub returns : goal.returns
returns c = begins-law
