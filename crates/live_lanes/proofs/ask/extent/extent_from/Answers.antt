use Rattle.std.proofs.Common.{None, Some, ap, sym, ◌∙◌, ℕ, Option}
use Rattle.std.specs.Prelude.{find, option_map}
use Rattle.live_lanes.specs.Extents.{begins_with, cell_extents}
use Rattle.live_lanes.specs.Table.{seen_cell}
use Rattle.live_lanes.proofs.ExtentLists.{begun_extent, block-found, extents-seen, start-found}
use Rattle.live_lanes.proofs.ask.extent.extent_from.Goals as goal

pub returns-in_default : goal.returns-in_default
returns-in_default c = λ r.
    let cell = c.args.cell.now in
    c.extent_of.ensures
    ∙ sym (ap (λ (q : Option ℕ). find (begins_with q) (cell_extents cell)) c.in_default.is ∙ (ap (find (begins_with None)) (extents-seen (Some cell)) ∙ block-found (seen_cell cell)))

pub returns-in-Some-segment_of : goal.returns-in-Some-segment_of
returns-in-Some-segment_of c = λ r.
    let cell = c.args.cell.now in
    ap Some c.segment_extent.ensures
    ∙ (ap (option_map begun_extent) (c.in-Some-segment_of.ensures r)
    ∙ sym (ap (λ (q : Option ℕ). find (begins_with q) (cell_extents cell)) c.in-Some.is ∙ (ap (find (begins_with (Some c.in-Some.id))) (extents-seen (Some cell)) ∙ start-found (seen_cell cell) c.in-Some.id)))

pub returns-in-None : goal.returns-in-None
returns-in-None c = λ r.
    let cell = c.args.cell.now in
    ap (option_map begun_extent) (c.in-None.ensures r)
    ∙ sym (ap (λ (q : Option ℕ). find (begins_with q) (cell_extents cell)) c.in-Some.is ∙ (ap (find (begins_with (Some c.in-Some.id))) (extents-seen (Some cell)) ∙ start-found (seen_cell cell) c.in-Some.id))
