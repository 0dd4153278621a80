use Rattle.std.proofs.Common.{Some, ap, sym, ◌∙◌, List}
use Rattle.std.specs.Prelude.{slice_get}
use Rattle.live_lanes.specs.declared.ask.extent.Extent.{Extent}
use Rattle.live_lanes.proofs.ExtentLists.{extents-rows, extents-seen, seen_extents}
use Rattle.live_lanes.proofs.table.Table.first_extent.Goals as goal

pub returns-in-Some : goal.returns-in-Some
returns-in-Some c =
    let x = c.args.self.now in
    let cell = c.in-Some.cell.now in
    c.first_extent.ensures
    ∙ ap (λ (es : List Extent). slice_get es 0) (extents-seen (Some cell) ∙ (ap seen_extents c.in-Some.ensures ∙ sym (extents-rows x c.args.lane c.args.block)))
