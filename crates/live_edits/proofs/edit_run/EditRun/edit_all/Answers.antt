use Rattle.std.proofs.Common.{List, ℕ, sym, subst}
use Rattle.instr_effects.specs.declared.lanes.LaneTable.{LaneTable}
use Rattle.instr_effects.specs.Numbered.{number_in, KeepsNumbers}
use Rattle.live_edits.specs.EditedRuns.{LetsAllGo}
use Rattle.live_edits.specs.Runs.{edits_of}
use Rattle.live_edits.proofs.EditedParts.{all-kept}
use Rattle.live_edits.proofs.edit_run.EditRun.edit_all.Goals as goal

pub returns-clause-ok : goal.returns-clause-ok
returns-clause-ok c = λ may.
    let mid = c.begin.new.self in
    let new = c.keep.new.self in
    let z = c.in_ok-made.ensures.done may in
    all-kept c.args.target.now (edits_of c.args.edits.items) z.clears.range c.args.self.now z.cleared mid new c.in_ok-made.made.erased.items may z.clears.takes z.clears.leaves z.done (subst (λ (xs : List ℕ). LetsAllGo mid new xs) c.as_slice.ensures.value c.keep.ensures)

pub returns-clause-numbers : goal.returns-clause-numbers
returns-clause-numbers c = λ may.
    subst (λ (ls : LaneTable). KeepsNumbers (number_in c.args.self.now.lanes) (number_in ls)) (sym c.keep.ensures.lanes) (c.begin.ensures.numbers may)
