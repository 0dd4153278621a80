use Rattle.ready_laws.proofs.SplitStarts.{split-keeps-start}
use Rattle.ready_laws.proofs.split_start_law.Goals as goal

pub returns : goal.returns
returns c = split-keeps-start
