use Rattle.state_laws.proofs.Evictions.{evicted_is_free}
use Rattle.state_laws.proofs.clear.evicted_law.Goals as goal

pub returns : goal.returns
returns c = evicted_is_free
