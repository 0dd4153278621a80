use Rattle.std.proofs.Common.{◌≡◌, ◌∙◌, ◌+◌, ap, ℕ, [], Some}
use Rattle.std.specs.Prelude.{replicate}
use Rattle.target_base.specs.declared.types.ClassId.{ClassId}
use Rattle.mir_func.specs.Binding.{class_of}
use Rattle.live_lanes.specs.declared.live.LiveFunc.{LiveFunc}
use Rattle.live_edits.specs.Runs.{edits_of}
use Rattle.live_edits.proofs.DraftEdits.{any-err}
use Rattle.split_kit.specs.MaySplit.{MaySplitLive}
use Rattle.split_kit.specs.PartEdits.{split_edits}
use Rattle.split_kit.specs.Split.{greatest_label}
use Rattle.split_kit.proofs.Splits.{count, edits-are, grows, own-class, parts-are, ranges-made, split-done, split-refused, split-unbegun, test}
use Rattle.split_kit.proofs.children.split.Goals as goal
use Rattle.split_kit.proofs.children.split.Goals.{After-fresh_all}

-- what is known once ranges were made, or weren't

abbrev May : After-fresh_all → Type 0
May c = MaySplitLive c.args.m.now.live c.args.v c.args.labels.now

own : (c : After-fresh_all) → May c → class_of c.args.m.now.live.func c.args.v ≡ Some c.unwrap_or-class.result
own c may =
    own-class c.args.m.now.live c.args.v c.args.labels.now may c.class_of.result c.unwrap_or-class.result (record { 0 = 0 })
    (c.class_of.ensures ∙ ap (λ f. class_of f c.args.v) (c.func.ensures ∙ ap (λ (x : LiveFunc). x.func) c.live.ensures)) c.unwrap_or-class.ensures

as-many : (c : After-fresh_all) → (may : May c) → c.greatest.result + 1 ≡ count c.args.m.now.live c.args.v c.args.labels.now may
as-many c may = ap (λ n. n + 1) (c.greatest.ensures ∙ ap greatest_label c.as_slice-2.ensures)

edits : (c : After-fresh_all) → (may : May c) → edits_of c.in_ok-edits.edits.items ≡ split_edits (test c.args.m.now.live c.args.v c.args.labels.now may) c.args.m.now.live.func c.args.v c.args.labels.now
edits c may =
    edits-are c.args.m.now.live c.args.v c.args.labels.now may (edits_of c.in_ok-edits.edits.items) c.as_slice.result.now c.as_slice.ensures
    (c.in_ok-edits.ensures (test c.args.m.now.live c.args.v c.args.labels.now may))

pub returns-in_err-edits-clause-err : goal.returns-in_err-edits-clause-err
returns-in_err-edits-clause-err c = any-err c.from_residual.result _ (λ may. ([], split-unbegun c.args.m.now.live c.args.v c.args.labels.now may))

pub returns-in_err-parts-clause-err : goal.returns-in_err-parts-clause-err
returns-in_err-parts-clause-err c = any-err c.from_residual-in_err-parts.result _ (λ may.
    let class : ClassId = c.unwrap_or-class.result in
    let d = (goal.at.returns-in_err-parts-clause-err c).After-fresh_all in
    let h = c.in_err-parts.ensures.err (grows c.args.m.now.live c.args.v c.args.labels.now may class (c.greatest.result + 1) (own d may) (as-many d may)) in
    (replicate h.0 (Some class), h.1.further))

pub returns-in_err-edit_all-clause-err : goal.returns-in_err-edit_all-clause-err
returns-in_err-edit_all-clause-err c = any-err c.from_residual-in_err-edit_all.result _ (λ may.
    let d = (goal.at.returns-in_err-edit_all-clause-err c).After-fresh_all in
    let has = ranges-made c.args.m.now.live c.args.v c.args.labels.now may c.unwrap_or-class.result (c.greatest.result + 1) c.fresh_all.new.m.live (own d may) (as-many d may) c.in_ok-parts.ensures.ok in
    (_, split-refused c.args.m.now.live c.args.v c.args.labels.now may c.unwrap_or-class.result (own d may) c.fresh_all.new.m.live c.edit_all.new.self.live has (edits_of c.in_ok-edits.edits.items) (edits d may) c.in_err-edit_all.ensures.err))

pub returns-clause-ok : goal.returns-clause-ok
returns-clause-ok c = λ may.
    let d = (goal.at.returns-clause-ok c).After-fresh_all in
    let has = ranges-made c.args.m.now.live c.args.v c.args.labels.now may c.unwrap_or-class.result (c.greatest.result + 1) c.fresh_all.new.m.live (own d may) (as-many d may) c.in_ok-parts.ensures.ok in
    split-done c.args.m.now.live c.args.v c.args.labels.now may c.unwrap_or-class.result (own d may) c.fresh_all.new.m.live c.edit_all.new.self.live has (edits_of c.in_ok-edits.edits.items) (edits d may) c.in_ok-edit_all.ensures.ok

pub returns-clause-answer : goal.returns-clause-answer
returns-clause-answer c = λ may.
    let d = (goal.at.returns-clause-answer c).After-fresh_all in
    let old : LiveFunc = c.args.m.now.live in
    let n : ℕ = c.greatest.result + 1 in
    parts-are old c.args.v c.args.labels.now may n c.in_ok-parts.parts (as-many d may) (c.in_ok-parts.ensures.answer (grows old c.args.v c.args.labels.now may c.unwrap_or-class.result n (own d may) (as-many d may)))
