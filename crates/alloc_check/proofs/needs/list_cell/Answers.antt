use Rattle.std.proofs.Common.{◌≡◌, ◌++◌, ◌∷◌, [], ◌<◌, length, get_or, sym, ap, ◌∙◌, arith}
use Rattle.alloc_check.specs.Cells.{belongs}
use Rattle.alloc_check.proofs.Celled.{list-counts, list-passes}
use Rattle.alloc_check.proofs.needs.list_cell.Goals.{then-belongs+in_ok-copied+in_ok-push, else-belongs}
use Rattle.alloc_check.proofs.needs.list_cell.Goals as goal

pub loop-f-preserved : goal.loop-f-preserved
loop-f-preserved c =
    let counts = belongs c.args.slots c.args.cell.now in
    let facts = c.args.cell.now.facts in
    let old = c.args.facts.now in
    let listed = c.loop-f.facts in
    let i = c.loop-f.f-index in
    let f = c.f-item.result in
    let lt : i < length facts = omega (arith, ap length c.as_slice-f-items.ensures) in
    let at : f ≡ get_or facts i f = c.f-item.is ∙ ap (λ fs. get_or fs i f) c.as_slice-f-items.ensures in
    elim c.if-belongs.branch [
      | then-belongs+in_ok-copied+in_ok-push w ↦
          list-counts counts facts old listed c.if-belongs.facts i f lt at (sym c.belongs.ensures ∙ w.if-belongs.true) c.loop-f.invariant
          (w.facts-is ∙ (w.in_ok-push.ensures.ok ∙ ap (λ x. listed ++ x ∷ []) w.in_ok-copied.ensures))
      | else-belongs w ↦
          list-passes counts facts old listed c.if-belongs.facts i f lt at (sym c.belongs.ensures ∙ w.if-belongs.false) c.loop-f.invariant w.facts-is
    ]
