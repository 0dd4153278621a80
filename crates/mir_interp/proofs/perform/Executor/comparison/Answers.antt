use Rattle.mir_interp.proofs.Performing.{comparison_pure}
use Rattle.mir_interp.proofs.perform.Executor.comparison.Goals as goal

pub returns : goal.returns
returns g c = λ n env h o. comparison_pure c.args.self.now.rest.now env o _ c.in_ok-lanes.lanes c.in_ok-a.a c.in_ok-b.b c.in_ok-w.w c.requires c.in_ok-lanes.ensures c.in_ok-w.ensures.0 (c.in_ok-a.ensures n env h) (c.in_ok-b.ensures n env h)
