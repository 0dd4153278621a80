use Rattle.std.proofs.Common.{◌≡◌, ◌++◌, ◌∷◌, [], ◌<◌, true, false, length, get_or, refl, sym, ap, ◌∙◌, arith}
use Rattle.alloc_check.specs.Cells.{belongs}
use Rattle.alloc_check.proofs.Celled.{split-passes, split-keeps, split-takes, split-whole}
use Rattle.alloc_check.proofs.cells.split.Goals.{then-stays_both+in_ok-copied+in_ok-push, else-stays_both+in_ok-copied-2+in_ok-push-2}
use Rattle.alloc_check.proofs.cells.split.Goals as goal

pub loop-f-preserved-then-not-belongs : goal.loop-f-preserved-then-not-belongs
loop-f-preserved-then-not-belongs c =
    let slots = c.args.slots in
    let cell = c.args.cell.now in
    let facts = cell.facts in
    let kept = c.loop-f.kept in
    let taken = c.loop-f.taken in
    let i = c.loop-f.f-index in
    let f = c.f-item.result in
    let lt : i < length facts = omega (arith, ap length c.as_slice-f-items.ensures) in
    let at : f ≡ get_or facts i f = c.f-item.is ∙ ap (λ fs. get_or fs i f) c.as_slice-f-items.ensures in
    let own : belongs slots cell f ≡ false = sym c.belongs.ensures ∙ c.if-not-belongs.true in
    split-passes (belongs slots cell) c.args.first.now c.args.second.now facts c.args.taken.now kept taken kept taken i f lt at own refl refl c.loop-f.invariant

pub loop-f-preserved : goal.loop-f-preserved
loop-f-preserved c =
    let slots = c.args.slots in
    let ws = c.args.first.now in
    let vs = c.args.second.now in
    let cell = c.args.cell.now in
    let facts = cell.facts in
    let before = c.args.taken.now in
    let kept = c.loop-f.kept in
    let taken = c.loop-f.taken in
    let i = c.loop-f.f-index in
    let f = c.f-item.result in
    let lt : i < length facts = omega (arith, ap length c.as_slice-f-items.ensures) in
    let at : f ≡ get_or facts i f = c.f-item.is ∙ ap (λ fs. get_or fs i f) c.as_slice-f-items.ensures in
    let own : belongs slots cell f ≡ true = sym c.belongs.ensures ∙ c.if-not-belongs.false in
    elim c.if-stays_both.branch [
      | then-stays_both+in_ok-copied+in_ok-push w ↦
          split-keeps (belongs slots cell) ws vs facts before kept taken c.if-stays_both.kept c.if-stays_both.taken i f lt at own (sym c.stays_both.ensures ∙ w.if-stays_both.true)
          (w.kept-is ∙ (w.in_ok-push.ensures.ok ∙ ap (λ x. kept ++ x ∷ []) w.in_ok-copied.ensures)) w.taken-is c.loop-f.invariant
      | else-stays_both+in_ok-copied-2+in_ok-push-2 w ↦
          split-takes (belongs slots cell) ws vs facts before kept taken c.if-stays_both.kept c.if-stays_both.taken i f lt at own
          w.kept-is (w.taken-is ∙ (w.in_ok-push-2.ensures.ok ∙ ap (λ x. taken ++ x ∷ []) w.in_ok-copied-2.ensures)) c.loop-f.invariant
    ]

pub returns : goal.returns
returns c =
    let cell = c.args.cell.now in
    split-whole (belongs c.args.slots cell) c.args.first.now c.args.second.now cell.facts c.args.taken.now c.loop-f.kept c.loop-f.taken c.loop-f.f-index (omega (arith, ap length c.as_slice-f-items.ensures)) c.loop-f.invariant
