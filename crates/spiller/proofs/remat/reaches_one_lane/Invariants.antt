use Rattle.std.proofs.Common.{◌≡◌, drop}
use Rattle.std.specs.List.{list_any}
use Rattle.spiller.specs.Walks.{lists}
use Rattle.spiller.proofs.remat.reaches_one_lane.Given as goal

-- those that are left decide
abbrev pub invariant-lanes : goal.invariant-lanes
invariant-lanes l = list_any (λ k. lists l.definition.reached.keys k l.id) (drop l.k-index l.lanes) ≡ list_any (λ k. lists l.definition.reached.keys k l.id) l.lanes
