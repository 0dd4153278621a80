use Rattle.rewriter.proofs.Entered.{enters-law}
use Rattle.rewriter.proofs.unit_laws.enters_law.Goals as goal

pub returns : goal.returns
returns c = enters-law
