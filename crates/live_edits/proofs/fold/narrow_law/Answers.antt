use Rattle.live_edits.proofs.JoiningClasses.{narrow-law}
use Rattle.live_edits.proofs.fold.narrow_law.Goals as goal

pub returns : goal.returns
returns c = narrow-law
