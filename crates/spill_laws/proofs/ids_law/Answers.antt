use Rattle.spill_laws.proofs.Kept.{spill_keeps_ids}
use Rattle.spill_laws.proofs.ids_law.Goals as goal

pub returns : goal.returns
returns c = spill_keeps_ids
