use Rattle.std.proofs.Common.{◌≡◌, ◌++◌, ◌<◌, length, get_or, sym, ap, ◌∙◌, arith}
use Rattle.alloc_check.specs.Cells.{counting}
use Rattle.alloc_check.proofs.Celled.{asked-next}
use Rattle.alloc_check.proofs.needs.Needs.list.Goals as goal

pub loop-cell-preserved : goal.loop-cell-preserved
loop-cell-preserved c =
    let slots = c.args.self.now.slots in
    let cells = c.args.self.now.cells in
    let i = c.loop-cell.cell-index in
    let cell = c.cell-item.result in
    let lt : i < length cells = omega (arith, ap length c.as_slice-cell-items.ensures) in
    let at : cell ≡ get_or cells i cell = c.cell-item.is ∙ ap (λ cs. get_or cs i cell) c.as_slice-cell-items.ensures in
    c.in_ok-list_cell.ensures ∙ (ap (λ fs. fs ++ counting slots cell) c.loop-cell.invariant ∙ sym (asked-next slots cells i cell lt at))
