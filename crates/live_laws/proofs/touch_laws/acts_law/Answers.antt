use Rattle.live_laws.proofs.Acts.Told.{acts-law}
use Rattle.live_laws.proofs.touch_laws.acts_law.Goals as goal

pub returns : goal.returns
returns c = acts-law
