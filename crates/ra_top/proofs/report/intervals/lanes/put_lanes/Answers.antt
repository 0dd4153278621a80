use Rattle.std.proofs.Common.{◌++◌, ◌∙◌, ℕ, List, ap, sym, arith}
use Rattle.std.specs.Prelude.{slice_get}
use Rattle.live_lanes.specs.Extents.{lanes_count}
use Rattle.ra_top.specs.Report.Intervals.Lines.{lane_line}
use Rattle.ra_top.specs.Report.Intervals.Told.{range_segments}
use Rattle.ra_top.proofs.ReportLemmas.Intervals.Rows.{number-more, number-none, number-all}
use Rattle.ra_top.proofs.report.intervals.lanes.put_lanes.Goals as goal

pub lanes-init : goal.lanes-init
lanes-init c =
    let live = c.args.live.now in
    let text : ℕ → List ℕ = λ k. lane_line k (range_segments live.table live.func.blocks c.args.v k) in
    ap (λ ls. c.args.out.now ++ ls) (number-all text (lanes_count (slice_get live.table.lanes.ranges.items c.args.v)))

pub lanes-preserved : goal.lanes-preserved
lanes-preserved c =
    let live = c.args.live.now in
    let text : ℕ → List ℕ = λ k. lane_line k (range_segments live.table live.func.blocks c.args.v k) in
    let count = c.lane_count-k-end.ensures in
    number-more text c.lanes.k (lanes_count (slice_get live.table.lanes.ranges.items c.args.v)) c.lanes.out c.put_lane.new.out (omega (arith, count)) c.in_ok-put_lane.ensures ∙ c.lanes.invariant

pub returns : goal.returns
returns c =
    let live = c.args.live.now in
    let text : ℕ → List ℕ = λ k. lane_line k (range_segments live.table live.func.blocks c.args.v k) in
    let count = c.lane_count-k-end.ensures in
    sym (number-none text c.lanes.k (lanes_count (slice_get live.table.lanes.ranges.items c.args.v)) c.lanes.out (omega (arith, count))) ∙ c.lanes.invariant
