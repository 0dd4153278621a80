use Rattle.std.proofs.Common.{◌≡◌, ◌-◌}
use Rattle.std.specs.List.{list_any}
use Rattle.mir_meaning.specs.Registers.{numbers}
use Rattle.spiller.specs.Walks.{lists}
use Rattle.spiller.proofs.remat.reaches_some_lane.Given as goal

-- those that are left decide
abbrev pub invariant-lanes : goal.invariant-lanes
invariant-lanes l = list_any (λ k. lists l.definition.reached.keys k l.id) (numbers l.k (l.count - l.k)) ≡ list_any (λ k. lists l.definition.reached.keys k l.id) (numbers 0 l.count)
