use Rattle.rewriter.proofs.Starts.{starts-law}
use Rattle.rewriter.proofs.unit_laws.starts_law.Goals as goal

pub returns : goal.returns
returns c = starts-law
