use Rattle.ra_top.proofs.CheckLemmas.Ends.{same_contents}
use Rattle.ra_top.proofs.Jobs.{check_refused, check_over}
use Rattle.ra_top.proofs.run.over_files.Goals as goal

pub returns-in-Err-clause-does : goal.returns-in-Err-clause-does
returns-in-Err-clause-does g c =
    check_refused c.args.command.target.now c.args.command.source.now c.args.command.allocated.now (g.F.Files.contents c.args.files.now) _ _ _ _ _ _ c.in-Err.ending.status _ c.in-Err.ending.detail c.in-Err.ensures.named c.in-Err.ensures.err c.tell.ensures.status c.tell.ensures.line

pub returns-in-Ok-clause-does : goal.returns-in-Ok-clause-does
returns-in-Ok-clause-does g c =
    check_over c.in-Ok.read c.args.command.target.now c.args.command.source.now c.args.command.allocated.now (g.F.Files.contents c.args.files.now) _ _ _ _ _ _ _ c.check-ending.result.0.status _ c.check-ending.result.1.now c.check-ending.result.0.detail c.in-Ok.ensures.ok (same_contents c.in-Ok.read c.args.command.source.now c.args.command.allocated.now _ _ _ _ _ _ _ _ c.in-Ok.ensures.contents c.check-ending.ensures.checks) c.tell-in-Ok.ensures.status c.tell-in-Ok.ensures.line
