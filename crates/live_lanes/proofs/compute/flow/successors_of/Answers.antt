use Rattle.std.proofs.Common.{arith, ap, ◌∙◌}
use Rattle.std.specs.Ordering.{nat_cmp}
use Rattle.std.specs.BTreeMap.{get}
use Rattle.mir_meaning.specs.Paths.{has}
use Rattle.live_lanes.proofs.Flowing.{edges-more, edges-all}
use Rattle.live_lanes.proofs.compute.flow.successors_of.Goals as goal

pub edges-init : goal.edges-init
edges-init c = λ x. ap (has x) c.new-found.ensures.items

pub edges-preserved : goal.edges-preserved
edges-preserved c = λ x. c.in_ok-add_exit.ensures x ∙ edges-more (get nat_cmp c.args.order.now.positions) c.args.edges.now c.edges.edge-index _ x _ (omega arith) (c.edges.invariant x)

pub returns : goal.returns
returns c = λ x. c.edges.invariant x ∙ edges-all (get nat_cmp c.args.order.now.positions) c.args.edges.now c.edges.edge-index x (omega arith)
