use Rattle.mir_meaning.specs.Paths.{has}
use Rattle.live_edits.proofs.AsideTold.{AreLanesTold}
use Rattle.live_edits.proofs.edit_run.EditRun.is_range_told.Given as goal

abbrev pub invariant-lanes : goal.invariant-lanes
invariant-lanes l = AreLanesTold (λ n. has n l.ids.keys) l.self.rows.rows.rows.items l.own.first l.own.count l.k
