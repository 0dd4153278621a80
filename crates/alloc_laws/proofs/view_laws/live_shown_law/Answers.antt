use Rattle.alloc_laws.proofs.Views.Live.{live-shown}
use Rattle.alloc_laws.proofs.view_laws.live_shown_law.Goals as goal

pub returns : goal.returns
returns c = live-shown
