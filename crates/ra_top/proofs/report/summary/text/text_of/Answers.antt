use Rattle.std.proofs.Common.{refl, subst}
use Rattle.std.specs.Prelude.{OnOk}
use Rattle.target_base.specs.declared.types.Target.{Target}
use Rattle.pipeline.specs.Guarded.Told.{ToldRun}
use Rattle.pipeline.proofs.GuardLemmas.Told.{part_of_none}
use Rattle.ra_top.proofs.report.summary.text.text_of.Goals as goal

pub text_by_reader-requires : goal.text_by_reader-requires
text_by_reader-requires g c = rw c.in-Ok.ensures c.requires

pub returns-in-Ok-clause-ok : goal.returns-in-Ok-clause-ok
returns-in-Ok-clause-ok g c = rw c.in-Ok.ensures at c.text_by_reader.ensures.ok

pub returns-in-Ok-clause-err : goal.returns-in-Ok-clause-err
returns-in-Ok-clause-err g c = rw c.in-Ok.ensures at c.text_by_reader.ensures.err

pub returns-in-Ok-clause-told : goal.returns-in-Ok-clause-told
returns-in-Ok-clause-told g c =
    let old = c.args.watchers.now.items in
    let new = c.text_by_reader.new.watchers.items in
    subst (λ (t : Target). OnOk c.text_by_reader.result (ToldRun (g.W.Watcher.next t) 0 old new)) c.in-Ok.ensures c.text_by_reader.ensures.told

pub returns-in-Ok-clause-part : goal.returns-in-Ok-clause-part
returns-in-Ok-clause-part g c = rw c.in-Ok.ensures at c.text_by_reader.ensures.part

pub returns-in-Err-clause-part : goal.returns-in-Err-clause-part
returns-in-Err-clause-part g c = part_of_none (g.W.Watcher.next c.args.target.now) c.args.watchers.now.items c.args.watchers.now.items refl
