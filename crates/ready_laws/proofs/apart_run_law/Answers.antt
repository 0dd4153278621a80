use Rattle.ready_laws.proofs.Listed.{apart-run-is-ready}
use Rattle.ready_laws.proofs.apart_run_law.Goals as goal

pub returns : goal.returns
returns c = apart-run-is-ready
