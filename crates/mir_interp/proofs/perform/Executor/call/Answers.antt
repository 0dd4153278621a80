use Rattle.std.proofs.Common.{◌<◌, ◌∙◌, ap, arith}
use Rattle.meaning.specs.Perform.{answers}
use Rattle.mir_interp.proofs.Performing.{calling_did}
use Rattle.mir_interp.proofs.perform.Executor.call.Goals as goal

pub returns-clause-did : goal.returns-clause-did
returns-clause-did g c = λ n env h o r lt.
    let same = c.calls-call.ensures in
    let few : c.calls-call.result < n = omega (arith, same, r.calls, lt) in
    calling_did c.args.self.now.rest.now env o _ c.args.outside.now c.count_call.new.self c.args.events.now _ c.in_ok-lanes.lanes c.in_ok-answer.answer c.in_ok-symbol.symbol c.requires r
    c.in_ok-count_call.ensures.bytes c.in_ok-count_call.ensures.calls (c.in_ok-lanes.ensures n env h) c.in_ok-symbol.ensures
    (c.in_ok-answer.ensures n env h few ∙ ap (λ t. answers env t 0 c.args.self.now.rest.now.result) same) c.in_ok-push.ensures.ok
