use Rattle.laws.proofs.Clash.{law_of_rewriting}
use Rattle.laws.proofs.rewriting_law.Goals as goal

pub returns : goal.returns
returns c = law_of_rewriting
