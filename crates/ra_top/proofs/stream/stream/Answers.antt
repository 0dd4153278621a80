use Rattle.std.proofs.Common.{refl}
use Rattle.pipeline.proofs.GuardLemmas.Told.{part_of_none}
use Rattle.ra_top.specs.declared.commands.status.Status.TheVariants as status
use Rattle.ra_top.proofs.Watched.{undone, as_part}
use Rattle.ra_top.proofs.stream.stream.Goals as goal

pub returns-in-Err-clause-told : goal.returns-in-Err-clause-told
returns-in-Err-clause-told g c = λ tells.
    let next = g.W.Watcher.next c.args.task.reader.now in
    let old = c.args.watchers.now.items in
    as_part next c.args.task.reader.now (g.F.Files.left c.args.files.now) c.ends.result.status old old (undone c.ends.result.status status.Memory c.ends.ensures.0 tt) (part_of_none next old old refl)
