use Rattle.live_laws.proofs.Touch.IsTouched.{is-touched-law}
use Rattle.live_laws.proofs.touch_laws.is_touched_law.Goals as goal

pub returns : goal.returns
returns c = is-touched-law
