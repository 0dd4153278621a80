use Rattle.std.proofs.Common.{◌∙◌, ap}
use Rattle.mir_meaning.specs.Paths.{has}
use Rattle.live_lanes.specs.Entered.{rows_seen}
use Rattle.live_edits.specs.declared.log.LoggedRows.{LoggedRows}
use Rattle.live_edits.proofs.EditedParts.{logged-rows}
use Rattle.live_edits.proofs.ToldRuns.{noted-from}
use Rattle.live_edits.proofs.edit_run.EditRun.try_all.Goals as goal

pub returns-in_err-notes-clause-logged : goal.returns-in_err-notes-clause-logged
returns-in_err-notes-clause-logged c = λ may. logged-rows c.args.target.now c.args.self.now c.do_edits.new.self c.bring_up.new.self (c.do_edits.ensures.logged may) c.bring_up.ensures.kept c.bring_up.ensures.logged

pub returns-in_err-erased-clause-logged : goal.returns-in_err-erased-clause-logged
returns-in_err-erased-clause-logged c = λ may. logged-rows c.args.target.now c.args.self.now c.do_edits.new.self c.bring_up.new.self (c.do_edits.ensures.logged may) c.bring_up.ensures.kept c.bring_up.ensures.logged

pub returns-clause-logged : goal.returns-clause-logged
returns-clause-logged c = λ may. logged-rows c.args.target.now c.args.self.now c.do_edits.new.self c.bring_up.new.self (c.do_edits.ensures.logged may) c.bring_up.ensures.kept c.bring_up.ensures.logged

pub returns-clause-done : goal.returns-clause-done
returns-clause-done c = λ may.
    let d = c.in_ok-do_edits.ensures.done may in
    record {
      done = c.do_edits.new.self;
      edits = d;
      brings = c.in_ok-notes.ensures.brings c.args.target.now d.tells;
      kept = c.bring_up.ensures.kept;
      erases = λ id. ap (has id) (c.in_ok-erased.ensures ∙ ap (λ s. s.keys) c.bring_up.ensures.kept.gone);
    }

pub returns-clause-told : goal.returns-clause-told
returns-clause-told c = λ may.
    let d = c.in_ok-do_edits.ensures.done may in
    let old = c.args.self.now.rows.rows.rows.items in
    let mid = c.do_edits.new.self.rows.rows.rows.items in
    let new = c.bring_up.new.self in
    noted-from old mid new.rows.rows.rows.items new.rows.log.items c.in_ok-notes.notes.items (λ l b. ap (λ (r : LoggedRows). rows_seen r.rows.rows.items l b) d.does.rows ∙ d.first.further.rows l b) c.in_ok-notes.ensures.told
