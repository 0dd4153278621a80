use Rattle.std.proofs.Common.{arith}
use Rattle.machine_verify.specs.Liveins.{is_set}
use Rattle.machine_verify.proofs.Lived.{wanted_step}
use Rattle.machine_verify.proofs.liveins.cover_registers.Goals as goal

pub units-preserved : goal.units-preserved
units-preserved c = wanted_step c.args.target.now c.args.rs.now (is_set c.args.live.now) _ _ _ c.units.u _ (omega arith) c.in_ok-push_wanted.ensures c.units.invariant
