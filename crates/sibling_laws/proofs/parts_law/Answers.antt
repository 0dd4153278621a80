use Rattle.sibling_laws.proofs.Adopted.{parts-are-adopted}
use Rattle.sibling_laws.proofs.parts_law.Goals as goal

pub returns : goal.returns
returns c = parts-are-adopted
