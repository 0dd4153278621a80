use Rattle.clear_laws.proofs.SpillKept.{places_are_kept}
use Rattle.clear_laws.proofs.Starts.{spill_starts_by}
use Rattle.clear_laws.proofs.spill_starts_law.Goals as goal

pub returns : goal.returns
returns c = spill_starts_by places_are_kept
