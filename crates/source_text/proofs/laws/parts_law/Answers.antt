use Rattle.source_text.proofs.Spelled.{parts-law}
use Rattle.source_text.proofs.laws.parts_law.Goals as goal

pub returns : goal.returns
returns c = parts-law
