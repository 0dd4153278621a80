use Rattle.std.proofs.Common.{refl}
use Rattle.pipeline.proofs.GuardLemmas.Told.{part_of_none}
use Rattle.ra_top.specs.declared.commands.status.Status.TheVariants as status
use Rattle.ra_top.proofs.Starts.{memory_at_start}
use Rattle.ra_top.proofs.Watched.{undone, as_part}
use Rattle.ra_top.proofs.run.over_target.Goals as goal

pub returns-in-Err-clause-streamed : goal.returns-in-Err-clause-streamed
returns-in-Err-clause-streamed g c = memory_at_start _ _ _ _ _ _ c.ends.result.detail c.ends.ensures.0

pub returns-in-Err-clause-told : goal.returns-in-Err-clause-told
returns-in-Err-clause-told g c = λ tells.
    let next = g.W.Watcher.next c.args.target.now in
    let old = c.args.watchers.now.items in
    as_part next c.args.target.now (g.F.Files.contents c.args.files.now c.args.command.file.now) c.ends.result.status old old (undone c.ends.result.status status.Memory c.ends.ensures.0 tt) (part_of_none next old old refl)

pub returns-in-Ok-clause-streamed : goal.returns-in-Ok-clause-streamed
returns-in-Ok-clause-streamed g c = rw c.in-Ok.ensures at c.over_reader.ensures.streamed

pub returns-in-Ok-clause-told : goal.returns-in-Ok-clause-told
returns-in-Ok-clause-told g c = λ tells. rw c.in-Ok.ensures at (c.over_reader.ensures.told tells)
