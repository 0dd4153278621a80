use Rattle.mir_interp.proofs.Performing.{did_empty, returning_did}
use Rattle.mir_interp.proofs.perform.Executor.give_back.Goals as goal

pub returns : goal.returns
returns g c = λ n env h o m r. did_empty env _ _ _ _ _ _ c.new-none.ensures (returning_did c.args.self.now.rest.now env o _ m c.args.events.now _ c.in_ok-lanes.lanes c.requires r (c.in_ok-lanes.ensures n env h) c.in_ok-push.ensures.ok)
