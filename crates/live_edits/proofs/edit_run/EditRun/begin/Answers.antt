use Rattle.std.proofs.Common.{◌≡◌, ◌∙◌, ℕ, Some, sym, ap, subst}
use Rattle.instr_effects.specs.declared.lanes.LaneTable.{LaneTable}
use Rattle.instr_effects.specs.declared.owner.Owner.TheVariants as owners
use Rattle.instr_effects.specs.Numbered.{number_in, KeepsNumbers}
use Rattle.live_edits.specs.declared.edit_run.EditRun.{EditRun}
use Rattle.live_edits.specs.Runs.{edits_of}
use Rattle.live_edits.proofs.EditedParts.{all-back, seen-first, keeps-first, still-there}
use Rattle.live_edits.proofs.edit_run.EditRun.begin.Goals as goal

abbrev TakenOf : EditRun → ℕ → ℕ → Type 0
TakenOf r v l = (k : ℕ) × (number_in r.lanes (owners.Range v k) ≡ Some l)

pub returns-in-Ok-clause-numbers : goal.returns-in-Ok-clause-numbers
returns-in-Ok-clause-numbers c = λ may.
    let old = c.args.self.now in
    let z = c.try_all_of.ensures.logged may in
    keeps-first c.args.target.now old z.cleared c.try_all_of.new.self (TakenOf old z.range) z.takes z.logged

pub returns-in-Err-clause-err : goal.returns-in-Err-clause-err
returns-in-Err-clause-err c = λ may.
    let t = c.args.target.now in
    let es = edits_of c.args.edits.items in
    let old = c.args.self.now in
    let mid = c.try_all_of.new.self in
    let z = c.try_all_of.ensures.logged may in
    let g = z.logged in
    all-back t es old z.cleared mid c.take_back.new.self (TakenOf old z.range) may z.takes g (c.take_back.ensures g.draft.order g.cells (still-there t es old z.cleared (TakenOf old z.range) may z.takes mid g))

pub returns-in-Err-clause-numbers : goal.returns-in-Err-clause-numbers
returns-in-Err-clause-numbers c = λ may.
    let t = c.args.target.now in
    let es = edits_of c.args.edits.items in
    let old = c.args.self.now in
    let mid = c.try_all_of.new.self in
    let z = c.try_all_of.ensures.logged may in
    let g = z.logged in
    let u = c.take_back.ensures g.draft.order g.cells (still-there t es old z.cleared (TakenOf old z.range) may z.takes mid g) in
    subst (λ (ls : LaneTable). KeepsNumbers (number_in old.lanes) (number_in ls)) (sym u.lanes) (keeps-first t old z.cleared mid (TakenOf old z.range) z.takes g)

pub returns-in-Err-clause-ranges : goal.returns-in-Err-clause-ranges
returns-in-Err-clause-ranges c = λ may.
    let t = c.args.target.now in
    let es = edits_of c.args.edits.items in
    let old = c.args.self.now in
    let mid = c.try_all_of.new.self in
    let z = c.try_all_of.ensures.logged may in
    let g = z.logged in
    let u = c.take_back.ensures g.draft.order g.cells (still-there t es old z.cleared (TakenOf old z.range) may z.takes mid g) in
    ap (λ (ls : LaneTable). ls.ranges) u.lanes ∙ c.try_all_of.ensures.ranges

pub returns-in-Err-clause-seen : goal.returns-in-Err-clause-seen
returns-in-Err-clause-seen c = λ may.
    let t = c.args.target.now in
    let es = edits_of c.args.edits.items in
    let old = c.args.self.now in
    let mid = c.try_all_of.new.self in
    let z = c.try_all_of.ensures.logged may in
    let g = z.logged in
    seen-first t es old z.cleared mid c.take_back.new.self (TakenOf old z.range) may z.takes g (c.take_back.ensures g.draft.order g.cells (still-there t es old z.cleared (TakenOf old z.range) may z.takes mid g))
