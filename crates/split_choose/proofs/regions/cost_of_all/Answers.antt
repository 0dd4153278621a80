use Rattle.std.proofs.Common.{◌∙◌, ap}
use Rattle.split_choose.specs.Regions.{span_cost}
use Rattle.split_choose.proofs.Sums.{costs_next, costs_last}
use Rattle.split_choose.proofs.regions.cost_of_all.Goals as goal

pub spans-preserved : goal.spans-preserved
spans-preserved c = λ test are.
    c.saturating_add-cost.ensures
    ∙ costs_next test c.args.spans.now c.args.insides.now c.spans.k c.index-spans-k.result c.spans.cost c.cost_of.result c.spans-test.true c.index-spans-k.is are
    (c.cost_of.ensures ∙ ap (span_cost c.index-spans-k.result) c.inside_there.ensures) (c.spans.invariant test are)

pub returns : goal.returns
returns c = λ test are. costs_last test c.args.spans.now c.spans.k c.spans.cost c.spans-test.false (c.spans.invariant test are)
