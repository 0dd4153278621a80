use Rattle.ra_top.proofs.CheckLemmas.Ends.{memory_at_source}
use Rattle.ra_top.proofs.check.files.check.Goals as goal

pub returns-in-Ok-clause-checks : goal.returns-in-Ok-clause-checks
returns-in-Ok-clause-checks g c = rw c.in-Ok.ensures at c.check_with_reader.ensures.checks

pub returns-in-Err-clause-checks : goal.returns-in-Err-clause-checks
returns-in-Err-clause-checks g c =
    memory_at_source c.args.target.now c.args.source.now c.args.allocated.now (g.F.Files.contents c.args.files.now) _ _ c.ends.result.status c.ends.result.detail c.ends.ensures.0
