use Rattle.std.proofs.Common.{◌∙◌}
use Rattle.live_edits.proofs.DraftEdits.{any-err}
use Rattle.split_kit.proofs.NewRanges.{mid-few, mid-length, new-more, new-same, numbers-last}
use Rattle.split_kit.proofs.children.add_fresh.Goals as goal

pub returns-in_err-part-clause-err : goal.returns-in_err-part-clause-err
returns-in_err-part-clause-err c = any-err c.from_residual.result _ (λ old k count may h has.
    (k, new-same old c.args.class count may k c.args.m.now.live c.fresh.new.self.live h has c.fresh.ensures.target c.in_err-part.ensures.refused.0 c.fresh.ensures.computed))

pub returns-in_err-push-clause-err : goal.returns-in_err-push-clause-err
returns-in_err-push-clause-err c = any-err c.from_residual-in_err-push.result _ (λ old k count may h has.
    let few = mid-few old c.args.class count may k c.args.m.now.live h has in
    (_, new-more old c.args.class count may k c.args.m.now.live c.fresh.new.self.live h has c.fresh.ensures.target (c.in_ok-part.ensures.func few).1 c.fresh.ensures.computed))

pub returns-clause-ok : goal.returns-clause-ok
returns-clause-ok c = λ old k count may h has same.
    let few = mid-few old c.args.class count may k c.args.m.now.live h has in
    let made = c.in_ok-part.ensures.func few in (
      new-more old c.args.class count may k c.args.m.now.live c.fresh.new.self.live h has c.fresh.ensures.target made.1 c.fresh.ensures.computed,
      numbers-last _ k c.in_ok-part.part c.args.parts.now c.push.new.self (made.0 ∙ mid-length old c.args.class count may k c.args.m.now.live has) same c.in_ok-push.ensures.ok,
    )
