use Rattle.spill_laws.proofs.TerminatorPlaces.{terminator_places_stand}
use Rattle.spill_laws.proofs.terminator_places_law.Goals as goal

pub returns : goal.returns
returns c = terminator_places_stand
