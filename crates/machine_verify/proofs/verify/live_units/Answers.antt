use Rattle.std.proofs.Common.{arith}
use Rattle.machine_verify.proofs.Marked.{flags_step}
use Rattle.machine_verify.proofs.verify.live_units.Goals as goal

pub units-preserved : goal.units-preserved
units-preserved c = flags_step c.args.target.now c.args.live.now.table c.args.block _ _ c.units.u (omega arith) c.in_ok-push_unit.ensures c.units.invariant
