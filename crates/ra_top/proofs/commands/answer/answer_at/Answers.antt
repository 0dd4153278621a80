use Rattle.std.proofs.Common.{refl}
use Rattle.pipeline.proofs.GuardLemmas.Told.{part_of_none}
use Rattle.ra_top.proofs.CommandLemmas.Answered.{answer_at_doc}
use Rattle.ra_top.proofs.CommandLemmas.Watched.{answer_of_piece}
use Rattle.ra_top.proofs.commands.answer.answer_at.Goals as goal

pub returns-in-Ok-clause-answer : goal.returns-in-Ok-clause-answer
returns-in-Ok-clause-answer g c =
    answer_at_doc c.args.task.job c.args.task.reader.now c.args.spot c.args.piece.now c.in-Ok.doc c.at_document.result c.in-Ok.ensures.ok c.at_document.ensures.answer

pub returns-in-Ok-clause-told : goal.returns-in-Ok-clause-told
returns-in-Ok-clause-told g c = λ tells.
    answer_of_piece (g.W.Watcher.next c.args.task.reader.now) c.args.task.reader.now c.args.spot c.args.piece.now c.in-Ok.doc c.at_document.result c.args.number.now c.at_document.new.number c.args.watchers.now.items c.at_document.new.watchers.items
    c.in-Ok.ensures.ok (c.at_document.ensures.told tells)

pub returns-in-Err-By-clause-told : goal.returns-in-Err-By-clause-told
returns-in-Err-By-clause-told g c = λ tells. part_of_none (g.W.Watcher.next c.args.task.reader.now) c.args.watchers.now.items c.args.watchers.now.items refl

pub returns-in-Err-Memory-clause-part : goal.returns-in-Err-Memory-clause-part
returns-in-Err-Memory-clause-part g c = part_of_none (g.W.Watcher.next c.args.task.reader.now) c.args.watchers.now.items c.args.watchers.now.items refl
