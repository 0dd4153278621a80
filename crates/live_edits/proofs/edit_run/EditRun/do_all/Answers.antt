use Rattle.std.proofs.Common.{◌∷◌, subst, reverse}
use Rattle.live_edits.specs.EditedRuns.{MayDo}
use Rattle.live_edits.specs.Runs.{edit_of, edits_of}
use Rattle.live_edits.proofs.EditedSteps.{DoesSome, does-more, does-none, draft-same, draft-then, tables-same, tables-then, turned-last}
use Rattle.live_edits.proofs.edit_run.EditRun.do_all.Goals as goal

pub edits-init : goal.edits-init
edits-init c = record {
  tables = tables-same c.args.self.now;
  draft = λ may. draft-same c.args.self.now.draft may.order;
  does = λ may. does-none c.args.target.now c.args.self.now (edits_of (reverse c.args.edits.items)) may;
}

pub edits-preserved : goal.edits-preserved
edits-preserved c =
    let t = c.args.target.now in
    let old = c.args.self.now in
    let now = c.edits.self in
    let new = c.do_edit.new.self in
    let whole = edits_of (reverse c.args.edits.items) in
    let rest = edits_of (reverse c.pop.new.self.items) in
    let e = edit_of c.in-Some.edit in
    let left = turned-last c.pop.new.self.items c.edits.left.items c.in-Some.edit c.in-Some.ensures.items in
    let some : MayDo t old whole → DoesSome t old now whole (e ∷ rest) = λ may. subst (DoesSome t old now whole) left (c.edits.invariant.does may) in
    record {
      tables = tables-then old now new c.edits.invariant.tables c.do_edit.ensures.tables;
      draft = λ may. let s = some may in draft-then old.draft now.draft new.draft (c.edits.invariant.draft may) (c.do_edit.ensures.logged s.does.order s.places.0);
      does = λ may. let s = some may in does-more t old now new whole rest e s (c.in_ok-do_edit.ensures.done s.does.order s.places.0 s.places.1);
    }

pub returns-in_err-do_edit-clause-logged : goal.returns-in_err-do_edit-clause-logged
returns-in_err-do_edit-clause-logged c =
    let t = c.args.target.now in
    let old = c.args.self.now in
    let now = c.edits.self in
    let new = c.do_edit.new.self in
    let whole = edits_of (reverse c.args.edits.items) in
    let rest = edits_of (reverse c.pop.new.self.items) in
    let e = edit_of c.in-Some.edit in
    let left = turned-last c.pop.new.self.items c.edits.left.items c.in-Some.edit c.in-Some.ensures.items in
    λ may.
    let s : DoesSome t old now whole (e ∷ rest) = subst (DoesSome t old now whole) left (c.edits.invariant.does may) in
    draft-then old.draft now.draft new.draft (c.edits.invariant.draft may) (c.do_edit.ensures.logged s.does.order s.places.0)
