use Rattle.std.proofs.Common.{refl}
use Rattle.pipeline.proofs.GuardLemmas.Told.{part_of_none, on_err}
use Rattle.ra_top.proofs.commands.trace.run_over.Goals as goal

-- nothing was told of a function that is refused before its run
pub returns-in_err-live-clause-part : goal.returns-in_err-live-clause-part
returns-in_err-live-clause-part g c = on_err c.from_residual.result (part_of_none (g.W.Watcher.next c.args.target.now) c.args.watchers.now.items c.args.watchers.now.items refl)
