use Rattle.std.proofs.Common.{◌≡◌, ℕ, List, ◌++◌, ◌-◌}
use Rattle.std.specs.Prelude.{slice_get, option_to_list}
use Rattle.std.specs.List.{flat_map}
use Rattle.mir_meaning.specs.Registers.{numbers}
use Rattle.live_lanes.specs.Entered.{cells_of, piece_count}
use Rattle.live_lanes.specs.Extents.{extent_in}
use Rattle.interval_laws.specs.Told.{extent_segment}
use Rattle.ra_top.specs.Report.Intervals.Lines.{segment_text}
use Rattle.ra_top.proofs.report.intervals.segments.put_segments.Given as goal

abbrev pub invariant-pieces : goal.invariant-pieces
invariant-pieces l =
    let cell = slice_get (cells_of l.here.live.now.table.rows.rows.items l.lane) l.place in
    let text : ℕ → List ℕ = λ index. flat_map (λ e. segment_text (extent_segment l.here.live.now.table.order.slots l.here.start l.here.end l.here.instrs.now e)) (option_to_list (extent_in cell index)) in
    l.out ++ flat_map text (numbers l.index (piece_count cell - l.index)) ≡ l.fn.out ++ flat_map text (numbers 0 (piece_count cell))
