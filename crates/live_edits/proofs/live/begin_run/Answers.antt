use Rattle.std.proofs.Common.{◌≡◌, ◌∙◌, ℕ, List, Some, ap, subst}
use Rattle.instr_effects.specs.declared.lanes.LaneTable.{LaneTable}
use Rattle.instr_effects.specs.declared.owner.Owner.TheVariants as owners
use Rattle.instr_effects.specs.Numbered.{number_in}
use Rattle.live_edits.specs.declared.edit_run.EditRun.{EditRun}
use Rattle.live_edits.specs.Runs.{edits_of}
use Rattle.live_edits.specs.declared.cells.CellNotes.{CellNotes}
use Rattle.live_edits.specs.Told.{HasWritten}
use Rattle.live_edits.proofs.EditedParts.{all-back, seen-first, still-there}
use Rattle.live_edits.proofs.ToldRuns.{pieces-told}
use Rattle.live_edits.proofs.live.begin_run.Goals as goal

abbrev TakenOf : EditRun → ℕ → ℕ → Type 0
TakenOf r v l = (k : ℕ) × (number_in r.lanes (owners.Range v k) ≡ Some l)

pub returns-in-Err-clause-err : goal.returns-in-Err-clause-err
returns-in-Err-clause-err c = λ may.
    let t = c.args.target.now in
    let es = edits_of c.args.edits.items in
    let old = c.args.run.now in
    let mid = c.begin.new.self in
    let z = c.in_ok-made.ensures.logged may in
    let g = z.logged in
    all-back t es old z.cleared mid c.take_back.new.self (TakenOf old z.range) may z.takes g (c.take_back.ensures g.draft.order g.cells (still-there t es old z.cleared (TakenOf old z.range) may z.takes mid g))

pub returns-in-Ok-clause-told : goal.returns-in-Ok-clause-told
returns-in-Ok-clause-told c = λ may.
    let pieces = c.in-Ok.pieces.items in
    pieces-told c.args.run.now c.begin.new.self c.args.v c.in_ok-made.made.notes.items pieces (c.in_ok-made.ensures.told may)
    (subst (λ (all : List CellNotes). HasWritten all pieces) c.as_slice.ensures.value c.in-Ok.ensures.written) c.in-Ok.ensures.named

pub returns-in-Err-clause-ranges : goal.returns-in-Err-clause-ranges
returns-in-Err-clause-ranges c = λ may.
    let t = c.args.target.now in
    let es = edits_of c.args.edits.items in
    let old = c.args.run.now in
    let mid = c.begin.new.self in
    let z = c.in_ok-made.ensures.logged may in
    let g = z.logged in
    let u = c.take_back.ensures g.draft.order g.cells (still-there t es old z.cleared (TakenOf old z.range) may z.takes mid g) in
    ap (λ (ls : LaneTable). ls.ranges) u.lanes ∙ c.begin.ensures.ranges may

pub returns-in-Err-clause-seen : goal.returns-in-Err-clause-seen
returns-in-Err-clause-seen c = λ may.
    let t = c.args.target.now in
    let es = edits_of c.args.edits.items in
    let old = c.args.run.now in
    let mid = c.begin.new.self in
    let z = c.in_ok-made.ensures.logged may in
    let g = z.logged in
    seen-first t es old z.cleared mid c.take_back.new.self (TakenOf old z.range) may z.takes g (c.take_back.ensures g.draft.order g.cells (still-there t es old z.cleared (TakenOf old z.range) may z.takes mid g))
