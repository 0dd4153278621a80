use Rattle.live_laws.proofs.Exact.Computed.{computed-law}
use Rattle.live_laws.proofs.exact_laws.computed_law.Goals as goal

pub returns : goal.returns
returns c = computed-law
