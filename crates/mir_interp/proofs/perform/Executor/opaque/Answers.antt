use Rattle.mir_interp.proofs.Performing.{did_empty, lacking_did, shown_did}
use Rattle.mir_interp.proofs.perform.Executor.opaque.Goals as goal

pub returns-then-lacking-clause-did : goal.returns-then-lacking-clause-did
returns-then-lacking-clause-did g c = λ n env h o r lt.
    did_empty env _ _ _ _ _ _ c.new-nothing.ensures
    (lacking_did c.args.self.now.rest.now c.args.kind env o _ c.args.outside.now c.args.events.now c.in_ok-lacking.lacking c.requires r (c.in_ok-lacking.ensures n env h) c.if-lacking.true)

pub returns-clause-did : goal.returns-clause-did
returns-clause-did g c = λ n env h o r lt.
    shown_did c.args.self.now.rest.now c.args.kind env o _ _ _ c.args.events.now _ c.in_ok-lacking.lacking c.requires (c.in_ok-lacking.ensures n env h) c.if-lacking.false
    (c.in_ok-shown.ensures.did n env h o r lt)
