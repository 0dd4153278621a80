use Rattle.laws.proofs.Places.{law_of_places}
use Rattle.laws.proofs.places_law.Goals as goal

pub returns : goal.returns
returns c = law_of_places
