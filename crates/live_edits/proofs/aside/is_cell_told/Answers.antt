use Rattle.std.proofs.Common.{◌∙◌, Bool, ℕ, sym, ap}
use Rattle.std.specs.List.{list_all}
use Rattle.mir_meaning.specs.Paths.{has}
use Rattle.live_lanes.specs.Table.{begun}
use Rattle.live_edits.specs.Aside.{are_told, is_begun_told}
use Rattle.live_edits.proofs.AsideTold.{cell-told}
use Rattle.live_edits.proofs.aside.is_cell_told.Goals as goal

pub returns : goal.returns
returns c =
    let told : ℕ → Bool = λ n. has n c.args.ids.now.keys in
    c.are_begun_told.ensures
    ∙ (ap (list_all (λ s. is_begun_told told (begun s))) c.as_slice-2.ensures.value
    ∙ cell-told told c.args.cell.now c.if-cell.false (ap (are_told told) (sym c.as_slice.ensures.value) ∙ (sym c.are_told.ensures ∙ c.if-not-are_told.false)))
