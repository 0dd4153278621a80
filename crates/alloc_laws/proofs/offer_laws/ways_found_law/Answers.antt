use Rattle.alloc_laws.proofs.Offers.Ways.{ways-found}
use Rattle.alloc_laws.proofs.offer_laws.ways_found_law.Goals as goal

pub returns : goal.returns
returns c = ways-found
