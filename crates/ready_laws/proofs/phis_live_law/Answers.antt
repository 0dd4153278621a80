use Rattle.ready_laws.proofs.PhiStarts.{phis-keep-start}
use Rattle.ready_laws.proofs.phis_live_law.Goals as goal

pub returns : goal.returns
returns c = phis-keep-start
