use Rattle.lowering_laws.proofs.Ties.{lowered_tied_refine}
use Rattle.lowering_laws.proofs.tied_law.Goals as goal

pub returns : goal.returns
returns c = lowered_tied_refine
