use Rattle.std.proofs.Common.{◌∙◌, sym, subst}
use Rattle.meaning.specs.Perform.{stored, widths_of}
use Rattle.mir_interp.specs.Remembers.{Matches}
use Rattle.mir_interp.proofs.Performing.{did_empty, no_base_did, storing_did}
use Rattle.mir_interp.proofs.perform.Executor.store.Goals as goal

pub returns-in_default-clause-did : goal.returns-in_default-clause-did
returns-in_default-clause-did g c = λ n env h o r. did_empty env _ _ _ _ _ _ c.new-nowhere.ensures (no_base_did c.args.self.now.rest.now c.args.scale env o _ c.args.outside.now c.args.events.now c.requires r (sym (c.in_ok-operand.ensures n env h) ∙ c.in_default.is))

pub returns-clause-did : goal.returns-clause-did
returns-clause-did g c = λ n env h o r.
    did_empty env _ _ _ _ _ _ c.new-none.ensures (storing_did c.args.self.now.rest.now c.args.scale env o _ c.put.new.outside c.args.events.now _ c.in-Some.base c.address-a.result c.in_ok-w.w c.in_ok-lanes.lanes c.requires
    (sym (c.in_ok-operand.ensures n env h) ∙ c.in-Some.is) c.in_ok-w.ensures.0 c.address-a.ensures
    (subst (λ t. Matches env c.put.new.outside.bytes (stored c.in_ok-w.w c.address-a.result (widths_of c.args.self.now.rest.now.widths 1) t o.bytes)) c.as_slice-values.ensures (c.in_ok-put.ensures.bytes env o.bytes r.bytes))
    (c.in_ok-put.ensures.calls ∙ r.calls) (c.in_ok-lanes.ensures n env h) c.in_ok-push.ensures.ok)
