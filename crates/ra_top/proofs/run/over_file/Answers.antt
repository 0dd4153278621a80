use Rattle.std.proofs.Common.{refl, inl}
use Rattle.ra_top.proofs.Jobs.{does_over_target, does_refused}
use Rattle.ra_top.specs.Watched.{ToldJob}
use Rattle.ra_top.proofs.Watched.{undone, if_tells, job_told}
use Rattle.ra_top.proofs.run.over_file.Goals as goal

pub returns-in-Ok-clause-does : goal.returns-in-Ok-clause-does
returns-in-Ok-clause-does g c =
    does_over_target c.args.command.job c.in-Ok.read c.args.command.target.now c.args.command.file.now (g.F.Files.contents c.args.files.now) (g.F.Files.contents c.named_target.new.files) _ _ _ _ _ _ _ c.over_target-ending.result.status _ c.over_target-ending.result.detail c.in-Ok.ensures.ok (c.in-Ok.ensures.contents c.args.command.file.now) c.over_target-ending.ensures.streamed c.tell-in-Ok.ensures.status c.tell-in-Ok.ensures.line

pub returns-in-Ok-clause-told : goal.returns-in-Ok-clause-told
returns-in-Ok-clause-told g c =
    let text = g.F.Files.contents c.args.files.now c.args.command.target.now in
    let file = g.F.Files.contents c.args.files.now c.args.command.file.now in
    let old = c.args.watchers.now.items in
    let new = c.over_target-ending.new.watchers.items in
    if_tells c.args.command.job (ToldJob g.W.Watcher.next c.args.command.target.now text file old new c.tell-in-Ok.result)
    (λ tells. job_told g.W.Watcher.next c.in-Ok.read c.args.command.target.now text (g.F.Files.contents c.named_target.new.files c.args.command.file.now) file old new c.over_target-ending.result.status c.tell-in-Ok.result
    c.in-Ok.ensures.ok (c.in-Ok.ensures.contents c.args.command.file.now) c.tell-in-Ok.ensures.status (c.over_target-ending.ensures.told tells))

pub returns-in-Err-clause-told : goal.returns-in-Err-clause-told
returns-in-Err-clause-told g c =
    let old = c.args.watchers.now.items in
    if_tells c.args.command.job (ToldJob g.W.Watcher.next c.args.command.target.now (g.F.Files.contents c.args.files.now c.args.command.target.now) (g.F.Files.contents c.args.files.now c.args.command.file.now) old old c.tell.result)
    (λ tells. inl (undone c.tell.result c.in-Err.ending.status c.tell.ensures.status c.in-Err.ensures.undone, refl))

pub returns-in-Err-clause-does : goal.returns-in-Err-clause-does
returns-in-Err-clause-does g c =
    does_refused c.args.command.job c.args.command.target.now c.args.command.file.now (g.F.Files.contents c.args.files.now) _ _ _ _ _ _ c.in-Err.ending.status _ c.in-Err.ending.detail c.in-Err.ensures.named c.in-Err.ensures.err c.tell.ensures.status c.tell.ensures.line
