use Rattle.std.proofs.Common.{subst}
use Rattle.ra_top.specs.declared.commands.status.Status.TheVariants as status
use Rattle.ra_top.specs.Commands.Answer.{IsAnswer}
use Rattle.ra_top.specs.Commands.Told.{ToldPiece}
use Rattle.ra_top.proofs.CommandLemmas.Watched.{part_of_doc}
use Rattle.ra_top.proofs.Watched.{undone, refuses_undone, no_last}
use Rattle.ra_top.proofs.stream.treat.Goals as goal

pub returns-in-Err-clause-told : goal.returns-in-Err-clause-told
returns-in-Err-clause-told g c = λ tells. (undone c.ends.result.status status.Memory c.ends.ensures.0 tt, c.in-Err.ensures.part)

pub returns-in-Ok-Refused-clause-told : goal.returns-in-Ok-Refused-clause-told
returns-in-Ok-Refused-clause-told g c = λ tells.
    let next = g.W.Watcher.next c.args.task.reader.now in
    let told = subst (ToldPiece next c.args.task.reader.now c.args.spot.now c.args.piece.now c.args.number.now c.answer_at.new.number c.args.watchers.now.items c.answer_at.new.watchers.items) c.in-Ok-Refused.field-0-is (c.in-Ok-Refused.ensures.told tells) in
    let answer = subst (IsAnswer c.args.task.job c.args.task.reader.now c.args.spot.now c.args.piece.now) c.in-Ok-Refused.field-0-is c.in-Ok-Refused.ensures.answer in
    (refuses_undone c.args.task.job c.args.task.reader.now c.args.spot.now c.args.piece.now c.in-Ok-Refused.status c.in-Ok-Refused.detail answer, told)

pub returns-in-Err-write_all-clause-told : goal.returns-in-Err-write_all-clause-told
returns-in-Err-write_all-clause-told g c = λ tells.
    absurd (no_last c.args.task.job c.args.task.reader.now c.args.spot.now c.args.piece.now c.in-Ok-Last.text tells (subst (IsAnswer c.args.task.job c.args.task.reader.now c.args.spot.now c.args.piece.now) c.in-Ok-Last.field-0-is c.in-Ok-Last.ensures.answer))

pub returns-in-Ok-Last-clause-told : goal.returns-in-Ok-Last-clause-told
returns-in-Ok-Last-clause-told g c = λ tells.
    absurd (no_last c.args.task.job c.args.task.reader.now c.args.spot.now c.args.piece.now c.in-Ok-Last.text tells (subst (IsAnswer c.args.task.job c.args.task.reader.now c.args.spot.now c.args.piece.now) c.in-Ok-Last.field-0-is c.in-Ok-Last.ensures.answer))

pub returns-in-Err-write_all-2-clause-told : goal.returns-in-Err-write_all-2-clause-told
returns-in-Err-write_all-2-clause-told g c = λ tells.
    let next = g.W.Watcher.next c.args.task.reader.now in
    let old = c.args.watchers.now.items in
    let new = c.answer_at.new.watchers.items in
    let told = subst (ToldPiece next c.args.task.reader.now c.args.spot.now c.args.piece.now c.args.number.now c.answer_at.new.number old new) c.in-Ok-Text.field-0-is (c.in-Ok-Text.ensures.told tells) in
    (undone c.ends-in-Err-write_all-2.result.status status.WriteFault c.ends-in-Err-write_all-2.ensures.0 tt, part_of_doc next told.0 c.args.number.now c.answer_at.new.number old new told.2)
