use Rattle.std.proofs.Common.{drop}
use Rattle.rewriter.specs.LiveUnits.{Marks, holds_live}
use Rattle.rewriter.specs.declared.live_units.LiveUnits.{LiveUnits}
use Rattle.rewriter.proofs.live_units.LiveUnits.mark_range.Given as goal

abbrev pub invariant-lanes : goal.invariant-lanes
invariant-lanes l =
    (y : LiveUnits) → Marks (holds_live l.live.table l.v l.k (drop l.k l.units)) l.self y → Marks (holds_live l.live.table l.v 0 l.units) l.initial.self y
