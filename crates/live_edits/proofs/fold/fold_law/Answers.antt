use Rattle.live_edits.proofs.JoiningLaw.{fold-law}
use Rattle.live_edits.proofs.fold.fold_law.Goals as goal

pub returns : goal.returns
returns c = fold-law
