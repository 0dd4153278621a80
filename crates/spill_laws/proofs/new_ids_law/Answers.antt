use Rattle.spill_laws.proofs.Joined.{ids_change_nothing}
use Rattle.spill_laws.proofs.new_ids_law.Goals as goal

pub returns : goal.returns
returns c = ids_change_nothing
