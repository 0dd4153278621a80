use Rattle.coalescer.proofs.QuietPoints.{instrs-quiet, quiet-instrs}
use Rattle.coalescer.proofs.quiet_laws.quiet_points_law.Goals as goal

pub returns : goal.returns
returns c t x j may = (quiet-instrs t x j may, instrs-quiet t x j may)
