use Rattle.ready_laws.proofs.Listed.{apart-is-reached}
use Rattle.ready_laws.proofs.apart_law.Goals as goal

pub returns : goal.returns
returns c = apart-is-reached
