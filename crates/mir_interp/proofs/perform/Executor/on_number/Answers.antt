use Rattle.mir_interp.proofs.Performing.{pure_empty, on_number_pure}
use Rattle.mir_interp.proofs.perform.Executor.on_number.Goals as goal

pub returns : goal.returns
returns g c = λ n env h o. pure_empty _ _ o _ c.new-none.ensures (on_number_pure c.args.self.now.rest.now env o _ c.in_ok-a.a c.is_set-tested.result c.branch_on-control.result c.requires c.branch_on-control.ensures c.is_set-tested.ensures (c.in_ok-a.ensures n env h))
