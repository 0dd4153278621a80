use Rattle.std.proofs.Common.{arith}
use Rattle.machine_verify.proofs.Lived.{kept_step}
use Rattle.machine_verify.proofs.liveins.unreserved_registers.Goals as goal

pub regs-preserved : goal.regs-preserved
regs-preserved c = kept_step c.args.target.now _ _ _ c.regs.k _ (omega arith) c.in_ok-push_unreserved.ensures c.regs.invariant
