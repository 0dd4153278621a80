use Rattle.std.proofs.Common.{◌≡◌, ◌∙◌, ap, sym, subst, ℕ, List, drop, take}
use Rattle.live_lanes.specs.declared.ask.labels.Mark.{Mark}
use Rattle.edit_laws.specs.Edits.{Edit}
use Rattle.live_edits.specs.Runs.{edits_of}
use Rattle.split_kit.specs.BlockWalk.{how_many, instr_home, mark_home}
use Rattle.split_kit.proofs.BlockWalk.{smaller}
use Rattle.split_kit.proofs.WalkLaw.{IsLeft, IsBlock, left-start, left-block, left-end}
use Rattle.split_kit.proofs.block_walk.all_edits.Goals as goal

pub walk-init : goal.walk-init
walk-init c = λ test shows same.
    let live = c.args.view.live.now in
    subst (IsLeft live.table live.func c.args.view.v c.args.marks.now test c.args.touched.now c.args.marks.now) (sym (ap edits_of c.in_ok-edits.ensures.items))
    (left-start live.table live.func c.args.view.v c.args.marks.now test c.args.touched.now shows same)

pub walk-preserved : goal.walk-preserved
walk-preserved c = λ test shows same.
    let live = c.args.view.live.now in
    let v : ℕ = c.args.view.v in
    let ms : List Mark = c.args.marks.now in
    let x = live.table in
    let q : ℕ = c.in-Some.block in
    let ids : List ℕ = c.walk.ids_left.now in
    let left : List Mark = c.walk.marks_left.now in
    let es : List Edit = edits_of c.walk.edits.items in
    let new : List Edit = edits_of c.add_block.new.edits.items in
    let h : IsLeft x live.func v ms test ids left es = c.walk.invariant test shows same in
    let n : IsBlock x live.func v ms test ids left es q = left-block x live.func v ms test ids left es q h (sym c.in-Some.ensures) in
    let own_behind : c.split_slice.result.1.now ≡ drop (how_many (instr_home x) q ids) ids = c.split_slice.ensures.rest ∙ ap (λ k. drop k ids) c.instrs_in.ensures in
    let marks_behind : c.split_slice-in-Some.result.1.now ≡ drop (how_many (mark_home x) q left) left = c.split_slice-in-Some.ensures.rest ∙ ap (λ k. drop k left) c.marks_in.ensures in
    subst (λ xs. IsLeft x live.func v ms test xs c.split_slice-in-Some.result.1.now new) (sym own_behind)
    (subst (λ ys. IsLeft x live.func v ms test (drop (how_many (instr_home x) q ids) ids) ys new) (sym marks_behind)
    (n.further new (c.in_ok-add_block.ensures test ms n.block shows n.there
    (c.split_slice.ensures.first ∙ (ap (λ k. take k ids) c.instrs_in.ensures ∙ n.own_here))
    (c.split_slice-in-Some.ensures.first ∙ (ap (λ k. take k left) c.marks_in.ensures ∙ n.marks_here)))))

pub returns : goal.returns
returns c = λ test shows same.
    let live = c.args.view.live.now in
    left-end live.table live.func c.args.view.v c.args.marks.now test c.walk.ids_left.now c.walk.marks_left.now (edits_of c.walk.edits.items) (c.walk.invariant test shows same) (sym c.in_default.ensures)

pub walk-smaller : goal.walk-smaller
walk-smaller c =
    let x = c.args.view.live.now.table in
    smaller (instr_home x) (mark_home x) c.in-Some.block c.walk.ids_left.now c.split_slice.result.1.now c.walk.marks_left.now c.split_slice-in-Some.result.1.now (sym c.in-Some.ensures)
    (c.split_slice.ensures.rest ∙ ap (λ k. drop k c.walk.ids_left.now) c.instrs_in.ensures)
    (c.split_slice-in-Some.ensures.rest ∙ ap (λ k. drop k c.walk.marks_left.now) c.marks_in.ensures)
