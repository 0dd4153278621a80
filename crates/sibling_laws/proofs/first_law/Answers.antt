use Rattle.sibling_laws.proofs.FirstSiblings.{first-siblings-apart}
use Rattle.sibling_laws.proofs.first_law.Goals as goal

pub returns : goal.returns
returns c = first-siblings-apart
