use Rattle.std.proofs.Common.{refl}
use Rattle.live_edits.specs.declared.edit_run.EditRun.{EditRun}
use Rattle.live_edits.specs.Runs.{edits_of}
use Rattle.live_edits.proofs.LiveRuns.{taken, taken-extents, taken-lanes}
use Rattle.live_edits.proofs.live.roll_back.Goals as goal

pub returns-clause-exact : goal.returns-clause-exact
returns-clause-exact c = λ es before begun.
    let r = c.take_run-run.result in
    let logs = c.args.changes.logs in
    let run : EditRun = record r { draft = record r.draft { log = logs.draft }; rows = record r.rows { log = logs.rows }; aside = logs.aside } in
    taken (edits_of es) before c.args.live.now c.give_back.new.live c.args.changes run c.take_back.new.self begun
    (record { func = c.take_run-run.ensures.run.func; table = c.take_run-run.ensures.run.table })
    (record { draft = refl; rows = refl; aside = refl })
    c.take_back.ensures c.give_back.ensures.run

pub returns-clause-extents : goal.returns-clause-extents
returns-clause-extents c = λ es before begun.
    let r = c.take_run-run.result in
    let logs = c.args.changes.logs in
    let run : EditRun = record r { draft = record r.draft { log = logs.draft }; rows = record r.rows { log = logs.rows }; aside = logs.aside } in
    taken-extents (edits_of es) before c.args.live.now c.give_back.new.live c.args.changes run c.take_back.new.self begun
    (record { func = c.take_run-run.ensures.run.func; table = c.take_run-run.ensures.run.table })
    (record { draft = refl; rows = refl; aside = refl })
    c.take_back.ensures c.give_back.ensures.run

pub returns-clause-lanes : goal.returns-clause-lanes
returns-clause-lanes c = λ es before begun.
    let r = c.take_run-run.result in
    let logs = c.args.changes.logs in
    let run : EditRun = record r { draft = record r.draft { log = logs.draft }; rows = record r.rows { log = logs.rows }; aside = logs.aside } in
    taken-lanes (edits_of es) before c.args.live.now c.give_back.new.live c.args.changes run c.take_back.new.self begun
    (record { func = c.take_run-run.ensures.run.func; table = c.take_run-run.ensures.run.table })
    (record { draft = refl; rows = refl; aside = refl })
    c.take_back.ensures c.give_back.ensures.run
