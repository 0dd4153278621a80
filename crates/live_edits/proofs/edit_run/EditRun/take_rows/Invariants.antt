use Rattle.live_edits.specs.Aside.{TakesRows}
use Rattle.live_edits.proofs.edit_run.EditRun.take_rows.Given as goal

abbrev pub invariant-lanes : goal.invariant-lanes
invariant-lanes l = TakesRows l.fn.self l.self l.v
