use Rattle.spiller.proofs.PathsTold.{told-facts}
use Rattle.spiller.proofs.spill_law.facts_law.Goals as goal

pub returns : goal.returns
returns c = told-facts
