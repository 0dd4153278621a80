use Rattle.std.proofs.Common.{◌∙◌, sym}
use Rattle.live_edits.specs.Runs.{table_of}
use Rattle.live_edits.proofs.AsideTold.{leaves-none}
use Rattle.live_edits.proofs.edit_run.EditRun.may_go.Goals as goal

pub returns : goal.returns
returns c = λ may. leaves-none (table_of c.args.self.now) c.args.edits.now c.args.v c.in_ok-ids.ids.keys (sym c.any_brings.ensures ∙ c.if-any_brings.false) c.in_ok-ids.ensures (c.is_range_told.ensures may)
