use Rattle.std.proofs.Common.{◌≡◌, true, false, sym, ap, ◌∙◌}
use Rattle.std.specs.List.{list_all}
use Rattle.alloc_check.specs.Cells.{stays_both}
use Rattle.alloc_check.specs.Marks.{is_marked}
use Rattle.alloc_check.proofs.Celled.{takes-unmarked, takes-nothing}
use Rattle.alloc_check.proofs.cells.take_from.Goals as goal

pub returns-then-not-right : goal.returns-then-not-right
returns-then-not-right c =
    let cell = c.args.cell.now in
    let marks = c.args.writes.now.first_marks.coarse.items in
    let marks' = c.args.writes.now.second_marks.coarse.items in
    let left : is_marked marks cell.left ≡ false = ap (λ m. is_marked m cell.left) (sym c.as_slice.ensures.value) ∙ (sym c.is_marked-left.ensures ∙ c.if-not-left.true) in
    let right : is_marked marks' cell.right ≡ false = ap (λ m. is_marked m cell.right) (sym c.as_slice-2.ensures.value) ∙ (sym c.is_marked-right.ensures ∙ c.if-not-right.true) in
    takes-unmarked c.args.slots c.args.writes.now.first.now c.args.writes.now.second.now marks marks' cell c.args.taken.now c.requires.first.coarse c.requires.second.coarse left right

pub returns-then-all_stay : goal.returns-then-all_stay
returns-then-all_stay c =
    takes-nothing c.args.slots c.args.writes.now.first.now c.args.writes.now.second.now c.args.cell.now c.args.taken.now
    (ap (list_all (stays_both c.args.writes.now.first.now c.args.writes.now.second.now)) (sym c.as_slice-3.ensures) ∙ (sym c.all_stay.ensures ∙ c.if-all_stay.true))
