use Rattle.alloc_laws.proofs.Offers.Pieces.{pieces-found}
use Rattle.alloc_laws.proofs.offer_laws.pieces_found_law.Goals as goal

pub returns : goal.returns
returns c = pieces-found
