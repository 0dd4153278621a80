use Rattle.std.proofs.Common.{◌≡◌, ◌++◌, ◌∙◌, ℕ, List, ap, sym, arith}
use Rattle.std.specs.Prelude.{slice_get, option_to_list}
use Rattle.std.specs.List.{flat_map}
use Rattle.mir_meaning.specs.Registers.{numbers}
use Rattle.live_lanes.specs.declared.ask.extent.Extent.{Extent}
use Rattle.live_lanes.specs.Entered.{cells_of, piece_count}
use Rattle.live_lanes.specs.Extents.{extent_in}
use Rattle.interval_laws.specs.Told.{extent_segment}
use Rattle.ra_top.specs.Report.Intervals.Lines.{segment_text}
use Rattle.ra_top.proofs.ReportLemmas.Intervals.Rows.{number-more, number-none, number-all, flat-filtered}
use Rattle.ra_top.proofs.report.intervals.segments.put_segments.Goals as goal

pub pieces-init : goal.pieces-init
pieces-init c =
    let here = c.args.here.now in
    let cell = slice_get (cells_of here.live.now.table.rows.rows.items c.args.lane) c.args.place in
    let own : Extent → List ℕ = λ e. segment_text (extent_segment here.live.now.table.order.slots here.start here.end here.instrs.now e) in
    let text : ℕ → List ℕ = λ index. flat_map own (option_to_list (extent_in cell index)) in
    ap (λ ls. c.args.out.now ++ ls) (number-all text (piece_count cell))

pub pieces-preserved : goal.pieces-preserved
pieces-preserved c =
    let here = c.args.here.now in
    let cell = slice_get (cells_of here.live.now.table.rows.rows.items c.args.lane) c.args.place in
    let own : Extent → List ℕ = λ e. segment_text (extent_segment here.live.now.table.order.slots here.start here.end here.instrs.now e) in
    let text : ℕ → List ℕ = λ index. flat_map own (option_to_list (extent_in cell index)) in
    let said : c.put_extent.new.out ≡ c.pieces.out ++ text c.pieces.index = c.in_ok-put_extent.ensures ∙ ap (λ e. c.pieces.out ++ flat_map own (option_to_list e)) c.extent.ensures in
    let count = c.piece_count-index-end.ensures in
    number-more text c.pieces.index (piece_count cell) c.pieces.out c.put_extent.new.out (omega (arith, count)) said ∙ c.pieces.invariant

pub returns : goal.returns
returns c =
    let here = c.args.here.now in
    let cell = slice_get (cells_of here.live.now.table.rows.rows.items c.args.lane) c.args.place in
    let own : Extent → List ℕ = λ e. segment_text (extent_segment here.live.now.table.order.slots here.start here.end here.instrs.now e) in
    let text : ℕ → List ℕ = λ index. flat_map own (option_to_list (extent_in cell index)) in
    let count = c.piece_count-index-end.ensures in
    sym (number-none text c.pieces.index (piece_count cell) c.pieces.out (omega (arith, count))) ∙ c.pieces.invariant ∙ ap (λ ls. c.args.out.now ++ ls) (sym (flat-filtered own (extent_in cell) (numbers 0 (piece_count cell))))
