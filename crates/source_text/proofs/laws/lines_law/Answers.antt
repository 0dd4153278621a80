use Rattle.source_text.proofs.Spelled.{lines-law}
use Rattle.source_text.proofs.laws.lines_law.Goals as goal

pub returns : goal.returns
returns c = lines-law
