use Rattle.ra_top.proofs.DeviceLemmas.Calls.{raised_rose}
use Rattle.ra_top.proofs.devices.memory.raise.Goals as goal

pub returns-clause-cause : goal.returns-clause-cause
returns-clause-cause c = rw c.saturating_add.ensures (raised_rose c.args.count c.ranges.count.fits)
