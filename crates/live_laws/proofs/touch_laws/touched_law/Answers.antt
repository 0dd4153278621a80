use Rattle.live_laws.proofs.Touch.Touched.{touched-law}
use Rattle.live_laws.proofs.touch_laws.touched_law.Goals as goal

pub returns : goal.returns
returns c = touched-law
