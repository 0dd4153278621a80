use Rattle.ready_laws.proofs.SplitStarts.{split-keeps-listed}
use Rattle.ready_laws.proofs.split_listed_law.Goals as goal

pub returns : goal.returns
returns c = split-keeps-listed
