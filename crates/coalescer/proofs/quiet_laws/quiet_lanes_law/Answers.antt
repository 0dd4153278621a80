use Rattle.coalescer.proofs.QuietLanes.{asked-of, partner-of, partner-same}
use Rattle.coalescer.proofs.quiet_laws.quiet_lanes_law.Goals as goal

pub returns-clause-one : goal.returns-clause-one
returns-clause-one c t x id j may e = partner-of t x.func j (asked-of t x may id j e)

pub returns-clause-join : goal.returns-clause-join
returns-clause-join c t x id j may e = partner-same t x.func j (asked-of t x may id j e)
