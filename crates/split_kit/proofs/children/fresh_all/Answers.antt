use Rattle.live_edits.proofs.DraftEdits.{any-err}
use Rattle.split_kit.proofs.NewRanges.{none-new}
use Rattle.split_kit.proofs.children.fresh_all.Goals as goal

pub labels-init : goal.labels-init
labels-init c = λ may. (none-new c.args.m.now.live c.args.class c.args.count may, c.new-parts.ensures)

pub returns-in_err-add_fresh-clause-err : goal.returns-in_err-add_fresh-clause-err
returns-in_err-add_fresh-clause-err c = any-err c.from_residual.result _ (λ may.
    c.in_err-add_fresh.ensures.err c.args.m.now.live c.labels.k c.args.count may c.labels-test.true (c.labels.invariant may).0)

pub labels-preserved : goal.labels-preserved
labels-preserved c = λ may.
    c.in_ok-add_fresh.ensures.ok c.args.m.now.live c.labels.k c.args.count may c.labels-test.true (c.labels.invariant may).0 (c.labels.invariant may).1
