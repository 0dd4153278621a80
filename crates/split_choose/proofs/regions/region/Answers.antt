use Rattle.std.proofs.Common.{◌≡◌, subst, length}
use Rattle.std.proofs.lemmas.Result.{IfOk-weaker}
use Rattle.live_lanes.specs.declared.live.LiveFunc.{LiveFunc}
use Rattle.live_lanes.specs.Ways.{successors}
use Rattle.split_choose.specs.Bundles.{IsClosed, AreBundles}
use Rattle.split_choose.proofs.Closed.{closed}
use Rattle.split_choose.proofs.regions.region.Goals as goal

pub returns : goal.returns
returns c =
    IfOk-weaker c.region_over.result _ _
    (λ q h finds points ways counted. (
    let parents = c.in_ok-bundles.bundles.parents.items in
    let Exact : LiveFunc → Type 0 = λ live. IsClosed (successors live.table.flow.items) (length live.func.blocks) → AreBundles (successors live.table.flow.items) parents in
    (parents, subst Exact c.live.ensures c.in_ok-bundles.ensures.exact (closed c.args.m.now.live.func c.args.m.now.live.table ways), h c.in_ok-bundles.ensures.earlier finds points counted)))
    c.region_over.ensures
