use Rattle.laws.proofs.Agreement.{rows_refine}
use Rattle.laws.proofs.rows_law.Goals as goal

pub returns : goal.returns
returns c = rows_refine
