use Rattle.std.proofs.Common.{◌≡◌, ℕ, List, ◌++◌, ◌-◌}
use Rattle.std.specs.Prelude.{slice_get}
use Rattle.std.specs.List.{flat_map}
use Rattle.mir_meaning.specs.Registers.{numbers}
use Rattle.live_lanes.specs.Extents.{lanes_count}
use Rattle.ra_top.specs.Report.Intervals.Lines.{lane_line}
use Rattle.ra_top.specs.Report.Intervals.Told.{range_segments}
use Rattle.ra_top.proofs.report.intervals.lanes.put_lanes.Given as goal

abbrev pub invariant-lanes : goal.invariant-lanes
invariant-lanes l =
    let count = lanes_count (slice_get l.live.table.lanes.ranges.items l.v) in
    let text : ℕ → List ℕ = λ k. lane_line k (range_segments l.live.table l.live.func.blocks l.v k) in
    l.out ++ flat_map text (numbers l.k (count - l.k)) ≡ l.fn.out ++ flat_map text (numbers 0 count)
