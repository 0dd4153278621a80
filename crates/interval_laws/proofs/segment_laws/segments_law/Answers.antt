use Rattle.interval_laws.proofs.Law.{segments-law}
use Rattle.interval_laws.proofs.segment_laws.segments_law.Goals as goal

pub returns : goal.returns
returns c = segments-law
