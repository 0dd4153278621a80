use Rattle.alloc_laws.proofs.Views.Others.{held-shown}
use Rattle.alloc_laws.proofs.view_laws.held_shown_law.Goals as goal

pub returns : goal.returns
returns c = held-shown
