use Rattle.std.proofs.Common.{map, ap, sym, ◌∙◌, Option, List}
use Rattle.std.specs.Prelude.{slice_get}
use Rattle.std.specs.List.{cons_option}
use Rattle.std.proofs.lemmas.Option.{slice_get-map}
use Rattle.live_lanes.specs.declared.ask.extent.Extent.{Extent}
use Rattle.live_lanes.specs.Extents.{segment_extent}
use Rattle.live_lanes.proofs.ExtentLists.{extents-list}
use Rattle.live_lanes.proofs.ask.spread.first_extent.Goals as goal

pub returns-in-None : goal.returns-in-None
returns-in-None c =
    let cell = c.args.cell.now in
    let segments = cell.segments.items in
    c.extent_of-in-None.ensures
    ∙ sym (ap (λ (es : List Extent). slice_get es 0) (extents-list cell)
    ∙ (ap (λ (q : Option Extent). slice_get (cons_option q (map segment_extent segments)) 0) (sym c.in-None.ensures)
    ∙ slice_get-map segment_extent segments 0))
