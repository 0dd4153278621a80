use Rattle.std.proofs.Common.{◌∙◌, ap}
use Rattle.std.proofs.lemmas.Result.{IfOk-weaker}
use Rattle.rewriter.specs.LiveUnits.{live_into}
use Rattle.rewriter.specs.Physical.{with_covers}
use Rattle.rewriter.proofs.physical.rewrite_assigned.Goals as goal

pub returns-clause-physical : goal.returns-clause-physical
returns-clause-physical c = IfOk-weaker c.with_covers.result _ _ (λ made h. record { between = c.in_ok-but.but; physical = c.in_ok-but.ensures.physical; liveins = h }) c.with_covers.ensures.liveins

pub returns-clause-exact : goal.returns-clause-exact
returns-clause-exact c = IfOk-weaker c.with_covers.result _ _ (λ made h. h ∙ ap (with_covers c.args.target.now (live_into c.args.live.now)) c.in_ok-but.ensures.exact) c.with_covers.ensures.exact
