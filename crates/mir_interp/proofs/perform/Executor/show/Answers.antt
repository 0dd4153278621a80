use Rattle.std.proofs.Common.{sym, subst}
use Rattle.meaning.specs.Perform.{shown}
use Rattle.meaning.specs.State.{values}
use Rattle.mir_interp.specs.Holds.{held_by}
use Rattle.mir_interp.specs.Kinds.{Did}
use Rattle.mir_interp.proofs.Performing.{asked_did}
use Rattle.mir_interp.proofs.perform.Executor.show.Goals as goal

pub returns-in_ok-left-in-Return-clause-did : goal.returns-in_ok-left-in-Return-clause-did
returns-in_ok-left-in-Return-clause-did g c = λ n env h o r lt.
    subst (λ k. Did env c.in_ok-left-in-Return.left c.args.outside.now c.args.events.now c.leave.new.events (shown k c.args.self.now.rest.now env o (values env (held_by c.args.self.now.store.now) c.args.self.now.reads.now))) (sym c.in-Return.is)
    (c.in_ok-left-in-Return.ensures n env h o c.args.outside.now r)

pub returns-in_ok-answered-in_default : goal.returns-in_ok-answered-in_default
returns-in_ok-answered-in_default g c = record {
  calls = c.in_ok-answered-in_default.ensures.calls;
  did = λ n env h o r lt. asked_did c.args.kind c.args.self.now.rest.now env o _ _ _ _ _ c.in_default.not-Return (c.in_ok-answered-in_default.ensures.did n env h o r lt);
}
