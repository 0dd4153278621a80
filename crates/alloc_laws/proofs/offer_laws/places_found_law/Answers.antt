use Rattle.alloc_laws.proofs.Offers.Places.{places-found}
use Rattle.alloc_laws.proofs.offer_laws.places_found_law.Goals as goal

pub returns : goal.returns
returns c = places-found
