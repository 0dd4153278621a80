use Rattle.pipeline.proofs.GuardLemmas.Told.{part_of_run, on_err}
use Rattle.ra_top.proofs.commands.documents.allocated_function.Goals as goal

-- the run had come to its end
pub returns-in_err-extend-in-Ok-clause-part : goal.returns-in_err-extend-in-Ok-clause-part
returns-in_err-extend-in-Ok-clause-part g c =
    on_err c.from_residual.result (part_of_run (g.W.Watcher.next c.args.reader.now) c.args.run.number c.args.watchers.now.items c.allocate_function.new.watchers.items c.in-Ok.ensures.told)
