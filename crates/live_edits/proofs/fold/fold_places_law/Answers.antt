use Rattle.live_edits.proofs.JoiningPlaces.{fold-places-law}
use Rattle.live_edits.proofs.fold.fold_places_law.Goals as goal

pub returns : goal.returns
returns c = fold-places-law
