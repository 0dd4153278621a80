use Rattle.mir_interp.proofs.Performing.{binary_pure}
use Rattle.mir_interp.proofs.perform.Executor.binary.Goals as goal

pub returns : goal.returns
returns g c = λ n env h o. binary_pure c.args.self.now.rest.now env o _ c.as_slice-result.result.now c.in_ok-lanes.lanes c.combine_defined-n.result c.in_ok-a.a c.in_ok-b.b c.in_ok-w.w c.requires c.as_slice-result.ensures c.in_ok-lanes.ensures c.combine_defined-n.ensures c.in_ok-w.ensures.0 (c.in_ok-a.ensures n env h) (c.in_ok-b.ensures n env h)
