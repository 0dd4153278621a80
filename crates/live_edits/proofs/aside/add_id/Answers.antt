use Rattle.std.proofs.Common.{◌∙◌, ap}
use Rattle.mir_meaning.specs.Paths.{has}
use Rattle.live_edits.proofs.RunIds.{has-inserted}
use Rattle.live_edits.proofs.aside.add_id.Goals as goal

pub returns : goal.returns
returns c = λ n. ap (has n) c.in_ok-insert.ensures.keys ∙ has-inserted c.args.ids.now.keys c.args.id n
