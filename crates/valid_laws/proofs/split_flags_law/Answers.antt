use Rattle.valid_laws.proofs.SplitFlags.{split-keeps-flags}
use Rattle.valid_laws.proofs.split_flags_law.Goals as goal

pub returns : goal.returns
returns c = split-keeps-flags
