use Rattle.std.proofs.Common.{refl}
use Rattle.pipeline.proofs.GuardLemmas.Told.{part_of_none}
use Rattle.ra_top.specs.declared.commands.status.Status.TheVariants as status
use Rattle.ra_top.proofs.Starts.{fails_at_start}
use Rattle.ra_top.proofs.Watched.{undone, as_part, as_begun}
use Rattle.ra_top.proofs.run.over_reader.Goals as goal

pub returns-in-Err-clause-streamed : goal.returns-in-Err-clause-streamed
returns-in-Err-clause-streamed g c = fails_at_start _ _ _ _ _ _ c.ends.result.detail c.ends.ensures.0 c.in-Err.ensures.left

pub returns-in-Err-clause-told : goal.returns-in-Err-clause-told
returns-in-Err-clause-told g c = λ tells.
    let next = g.W.Watcher.next c.args.task.reader.now in
    let old = c.args.watchers.now.items in
    as_part next c.args.task.reader.now (g.F.Files.contents c.args.files.now c.args.file.now) c.ends.result.status old old (undone c.ends.result.status status.ReadFault c.ends.ensures.0 tt) (part_of_none next old old refl)

pub returns-in-Ok-clause-told : goal.returns-in-Ok-clause-told
returns-in-Ok-clause-told g c = λ tells.
    as_begun (g.W.Watcher.next c.args.task.reader.now) c.args.task.reader.now (g.F.Files.contents c.args.files.now c.args.file.now) (g.F.Files.left c.start.new.self) c.stream.result.status c.args.watchers.now.items c.stream.new.watchers.items
    c.in-Ok.ensures.left (c.stream.ensures.told tells)
