use Rattle.split_laws.proofs.InTurn.{lowered_splits_refine}
use Rattle.split_laws.proofs.lowered_splits_law.Goals as goal

pub returns : goal.returns
returns c = lowered_splits_refine
