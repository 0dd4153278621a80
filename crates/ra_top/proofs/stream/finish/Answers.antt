use Rattle.std.proofs.Common.{◌∙◌}
use Rattle.ra_top.proofs.Documents.{finished_as}
use Rattle.ra_top.proofs.stream.finish.Goals as goal

pub returns-clause-finished : goal.returns-clause-finished
returns-clause-finished g c =
    finished_as c.args.job _ _ _ (c.ends-in-Ok-write_all.ensures.0 ∙ c.end_status.ensures) (c.in-Ok.text, c.in-Ok.ensures.text, rw c.as_slice.ensures at c.in-Ok-write_all.ensures.all)
