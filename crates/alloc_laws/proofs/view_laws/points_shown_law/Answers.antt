use Rattle.alloc_laws.proofs.Views.Live.{points-shown}
use Rattle.alloc_laws.proofs.view_laws.points_shown_law.Goals as goal

pub returns : goal.returns
returns c = points-shown
