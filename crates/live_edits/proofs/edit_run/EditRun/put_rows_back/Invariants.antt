use Rattle.std.proofs.Common.{vec_len}
use Rattle.live_edits.proofs.AsideRows.{LeadsBack}
use Rattle.live_edits.proofs.edit_run.EditRun.put_rows_back.Given as goal

abbrev pub invariant-rows : goal.invariant-rows
invariant-rows l = LeadsBack l.fn.self l.self

abbrev pub decreases-rows : goal.decreases-rows
decreases-rows l = vec_len l.self.aside
