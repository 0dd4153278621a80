use Rattle.std.proofs.Common.{refl}
use Rattle.split_choose.proofs.Offered.{part_is}
use Rattle.split_choose.proofs.regions.offer_of.Goals as goal

pub returns : goal.returns
returns c = λ ready.
    part_is c.args.view.m.now c.args.view.v c.args.view.bundles.now.parents.items c.args.view.spans.now c.args.register _ c.in_ok-clear.clear.items c.as_slice.result.now c.in_ok-insides.insides.items c.as_slice-2.result.now c.cost_of_all-cost.result
    c.in_ok-clear.ensures c.as_slice.ensures.value c.in_ok-insides.ensures c.as_slice-2.ensures.value c.cost_of_all-cost.ensures refl refl refl ready
