use Rattle.ready_laws.proofs.Runs.{computed-run-is-ready}
use Rattle.ready_laws.proofs.computed_law.Goals as goal

pub returns : goal.returns
returns c = computed-run-is-ready
