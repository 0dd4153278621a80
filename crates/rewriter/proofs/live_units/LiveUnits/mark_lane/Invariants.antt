use Rattle.std.proofs.Common.{◌&&◌, drop}
use Rattle.std.specs.Prelude.{nat_eq}
use Rattle.live_lanes.specs.Entered.{cells_of}
use Rattle.rewriter.specs.LiveUnits.{Marks}
use Rattle.rewriter.specs.declared.live_units.LiveUnits.{LiveUnits}
use Rattle.rewriter.proofs.Marked.{any_at}
use Rattle.rewriter.proofs.live_units.LiveUnits.mark_lane.Given as goal

abbrev pub invariant-cells : goal.invariant-cells
invariant-cells l =
    (y : LiveUnits) → Marks (λ p u. nat_eq l.u.0 u && any_at (drop l.place (cells_of l.live.table.rows.rows.items l.lane)) p) l.self y
    → Marks (λ p u. nat_eq l.u.0 u && any_at (cells_of l.live.table.rows.rows.items l.lane) p) l.initial.self y
