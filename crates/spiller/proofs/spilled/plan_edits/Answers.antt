use Rattle.std.proofs.Common.{◌≡◌, ◌∙◌, ◌+◌, ap, sym, arith, get_or, drop, List, ℕ, []}
use Rattle.spiller.specs.Marks.{Mark, MayPlan, all_marks, with_marks}
use Rattle.spiller.specs.Setting.{Spilling}
use Rattle.spiller.specs.Views.{planned, spilling_of}
use Rattle.spiller.proofs.MarkLoop.{IsNextMark, marks-ended, marks-are, next-mark, plan-begun, touched-marks}
use Rattle.spiller.proofs.spilled.plan_edits.Goals as goal

pub touched-init : goal.touched-init
touched-init c = λ facts may few touched.
    let view = c.args.view in
    plan-begun (spilling_of view view.slot facts) view.live.now.table (planned c.in_ok-plan.plan) may.may (c.in_ok-plan.ensures few)

pub touched-preserved : goal.touched-preserved
touched-preserved c = λ facts may few touched.
    let view = c.args.view in
    let s : Spilling = spilling_of view view.slot facts in
    let f = view.live.now.func in
    let ms : List Mark = all_marks view.v f.blocks in
    let k : ℕ = c.touched.id-index in
    let n : IsNextMark ms k (get_or c.args.touched.now k 0) = next-mark ms c.args.touched.now k 0 (touched-marks view.target.now f view.live.now.table view.v may.may c.args.touched.now touched) (omega arith) in
    let is = marks-are view.v f n.mark n.member in
    let rest : List Mark = drop (k + 1) ms in
    (λ j. with_marks s (c.in_ok-ended.ensures.ended facts n.mark may is n.named j) rest (c.in_ok-ended.ensures.plan facts n.mark may is n.named j))
    ∙ (ap (λ xs. with_marks s c.touched.ended xs (planned c.touched.plan)) (sym n.rest) ∙ c.touched.invariant facts may few touched)

pub returns : goal.returns
returns c = λ facts may few are touched.
    let view = c.args.view in
    let s : Spilling = spilling_of view view.slot facts in
    let f = view.live.now.func in
    let ms : List Mark = all_marks view.v f.blocks in
    let k : ℕ = c.touched.id-index in
    let plan : MayPlan view c.in_ok-remat.remat facts = record { may = may; are = are; tells = c.in_ok-remat.ensures facts may touched are } in
    let none : drop k ms ≡ [] = marks-ended ms c.args.touched.now k (touched-marks view.target.now f view.live.now.table view.v may c.args.touched.now touched) (omega arith) in
    ap (λ xs. with_marks s c.touched.ended xs (planned c.touched.plan)) (sym none) ∙ c.touched.invariant facts plan few touched
