use Rattle.split_laws.proofs.InTurn.{splits_refine}
use Rattle.split_laws.proofs.splits_law.Goals as goal

pub returns : goal.returns
returns c = splits_refine
