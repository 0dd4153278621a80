use Rattle.ready_laws.proofs.TiedStarts.{ties-keep-live}
use Rattle.ready_laws.proofs.ties_live_law.Goals as goal

pub returns : goal.returns
returns c = ties-keep-live
