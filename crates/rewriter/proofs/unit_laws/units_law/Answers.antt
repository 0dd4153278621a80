use Rattle.rewriter.proofs.Units.{units-law}
use Rattle.rewriter.proofs.unit_laws.units_law.Goals as goal

pub returns : goal.returns
returns c = units-law
