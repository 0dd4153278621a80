use Rattle.std.proofs.Common.{ℕ, List, length, take, sym, subst}
use Rattle.live_lanes.specs.Ways.{successors}
use Rattle.split_choose.specs.Bundles.{Joins}
use Rattle.split_choose.proofs.Joining.{join_step, join_last, earlier_set}
use Rattle.split_choose.proofs.bundles.Bundles.join_all.Goals as goal

pub successors-preserved : goal.successors-preserved
successors-preserved c = record {
  earlier = λ e. earlier_set c.successors.self.parents.items _ _ _ c.join.ensures (c.successors.invariant.earlier e);
  joins = λ closed forest.
      join_step (successors c.args.live.now.table.flow.items) (length c.args.live.now.func.blocks) c.args.self.now.parents.items c.successors.self.parents.items c.successors-next-items.result.now _ c.args.position c.successors.next-index c.start_of.result c.end_of.result
      c.successors-next-items.ensures c.successors-test.true c.start_of.ensures c.end_of.ensures c.join.ensures closed (c.successors.invariant.joins closed forest);
}

pub returns-clause-joins : goal.returns-clause-joins
returns-clause-joins c = λ closed forest.
    let next = successors c.args.live.now.table.flow.items in
    let P : List ℕ → Type 0 = λ ns. Joins next (length c.args.live.now.func.blocks) c.args.self.now.parents.items c.successors.self.parents.items c.args.position (take c.successors.next-index ns) in
    join_last next (length c.args.live.now.func.blocks) c.args.self.now.parents.items c.successors.self.parents.items c.successors-next-items.result.now c.args.position c.successors.next-index c.successors-next-items.ensures c.successors-test.false
    (subst P (sym c.successors-next-items.ensures) (c.successors.invariant.joins closed forest))
