use Rattle.std.proofs.Common.{subst}
use Rattle.target_base.specs.Mini.{mini_target}
use Rattle.ra_top.specs.Commands.Told.{ToldOne}
use Rattle.ra_top.proofs.Watched.{gen_run}
use Rattle.ra_top.proofs.generated.generate.Goals as goal

pub returns-in-Ok-Last-clause-told : goal.returns-in-Ok-Last-clause-told
returns-in-Ok-Last-clause-told g c =
    let next = g.W.Watcher.next mini_target in
    let old = c.args.watchers.now.items in
    let new = c.gen_answer.new.watchers.items in
    gen_run next c.write_text-in-Ok-Last.result.status old new (subst (ToldOne next 0 old new) c.in-Ok-Last.field-0-is c.in-Ok-Last.ensures.told)
