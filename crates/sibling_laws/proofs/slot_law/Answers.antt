use Rattle.sibling_laws.proofs.SlotsApart.{siblings-give-slot-apart}
use Rattle.sibling_laws.proofs.slot_law.Goals as goal

pub returns : goal.returns
returns c = siblings-give-slot-apart
