use Rattle.spill_laws.proofs.ItemsStay.{items_stay}
use Rattle.spill_laws.proofs.items_stay_law.Goals as goal

pub returns : goal.returns
returns c = items_stay
