use Rattle.sibling_laws.proofs.SplitSiblings.{split-keeps-siblings}
use Rattle.sibling_laws.proofs.split_law.Goals as goal

pub returns : goal.returns
returns c = split-keeps-siblings
