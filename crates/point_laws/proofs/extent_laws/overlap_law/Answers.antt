use Rattle.point_laws.proofs.Overlap.{overlap-law}
use Rattle.point_laws.proofs.extent_laws.overlap_law.Goals as goal

pub returns : goal.returns
returns c = overlap-law
