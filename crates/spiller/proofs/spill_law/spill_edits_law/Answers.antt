use Rattle.spiller.proofs.SpillLaw.{spill-edits-law}
use Rattle.spiller.proofs.spill_law.spill_edits_law.Goals as goal

pub returns : goal.returns
returns c = spill-edits-law
