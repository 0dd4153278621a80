use Rattle.std.proofs.Common.{subst, length}
use Rattle.std.proofs.lemmas.Result.{IfOk-weaker}
use Rattle.live_lanes.specs.declared.live.LiveFunc.{LiveFunc}
use Rattle.live_lanes.specs.Ways.{successors}
use Rattle.split_choose.specs.Bundles.{IsClosed, AreBundles}
use Rattle.split_choose.proofs.Closed.{closed}
use Rattle.split_choose.proofs.cuts.cut_region.Goals as goal

pub returns : goal.returns
returns c =
    IfOk-weaker c.cut_region_over.result _ _
    (λ q h finds points ways counted small. (
    let parents = c.in_ok-bundles.bundles.parents.items in
    let Exact : LiveFunc → Type 0 = λ live. IsClosed (successors live.table.flow.items) (length live.func.blocks) → AreBundles (successors live.table.flow.items) parents in
    (parents, subst Exact c.live.ensures c.in_ok-bundles.ensures.exact (closed c.args.m.now.live.func c.args.m.now.live.table ways), h c.in_ok-bundles.ensures.earlier finds points counted small)))
    c.cut_region_over.ensures
