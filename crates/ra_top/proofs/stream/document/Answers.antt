use Rattle.std.proofs.Common.{◌≡◌, ◌<◌, length, rules, refl}
use Rattle.ra_top.proofs.Documents.{document_step, document_done}
use Rattle.pipeline.proofs.GuardLemmas.Told.{part_of_none}
use Rattle.ra_top.specs.declared.commands.status.Status.TheVariants as status
use Rattle.ra_top.proofs.CheckLemmas.Reads.{file_ends}
use Rattle.ra_top.proofs.Watched.{undone, end_part, step_over, step_piece, piece_traced}
use Rattle.ra_top.proofs.stream.document.Goals as goal

pub returns-then-is_empty-clause-step : goal.returns-then-is_empty-clause-step
returns-then-is_empty-clause-step g c =
    let none : length c.read_piece.new.piece ≡ 0 = search rules in
    document_done c.args.task.job _ _ _ _ _ c.read_piece.new.piece _ _ _ _ c.finish.result none c.in-Ok.ensures.end c.finish.ensures.finished

pub returns-else-is_empty-clause-step : goal.returns-else-is_empty-clause-step
returns-else-is_empty-clause-step g c =
    let same = c.bytes-piece.ensures in
    let filled : 0 < length c.read_piece.new.piece = search rules in
    document_step _ _ _ _ _ _ _ _ c.read_piece.new.piece _ _ c.treat.result filled c.in-Ok.ensures.none c.in-Ok.ensures.taken c.in-Ok.ensures.end (rw same at c.treat.ensures.step) (rw same at c.treat.ensures.moves)

pub returns-in-Err-Failed-clause-told : goal.returns-in-Err-Failed-clause-told
returns-in-Err-Failed-clause-told g c = λ tells.
    let next = g.W.Watcher.next c.args.task.reader.now in
    let old = c.args.watchers.now.items in
    end_part next (g.F.Files.left c.args.files.now) c.args.reading.now.chunk c.ends.result.status old old (undone c.ends.result.status status.ReadFault c.ends.ensures.0 tt) (part_of_none next old old refl)

pub returns-in-Err-Memory-clause-told : goal.returns-in-Err-Memory-clause-told
returns-in-Err-Memory-clause-told g c = λ tells.
    let next = g.W.Watcher.next c.args.task.reader.now in
    let old = c.args.watchers.now.items in
    end_part next (g.F.Files.left c.args.files.now) c.args.reading.now.chunk c.ends-in-Err-Memory.result.status old old (undone c.ends-in-Err-Memory.result.status status.Memory c.ends-in-Err-Memory.ensures.0 tt) (part_of_none next old old refl)

pub returns-then-is_empty-clause-told : goal.returns-then-is_empty-clause-told
returns-then-is_empty-clause-told g c = λ tells.
    let none : length c.read_piece.new.piece ≡ 0 = search rules in
    step_over (g.W.Watcher.next c.args.task.reader.now) c.args.task.job c.args.task.reader.now c.args.reading.now.spot c.args.reading.now.spot (g.F.Files.left c.args.files.now) c.args.reading.now.chunk (g.F.Files.left c.read_piece.new.files) c.read_piece.new.chunk c.args.number.now (g.O.Sink.written c.args.out.now) (g.O.Sink.written c.finish.new.out) c.args.watchers.now.items c.finish.result
    (file_ends (g.F.Files.left c.args.files.now) c.args.reading.now.chunk c.read_piece.new.piece none c.in-Ok.ensures.end) c.finish.ensures.finished

pub returns-else-is_empty-clause-told : goal.returns-else-is_empty-clause-told
returns-else-is_empty-clause-told g c = λ tells.
    let same = c.bytes-piece.ensures in
    let filled : 0 < length c.read_piece.new.piece = search rules in
    step_piece (g.W.Watcher.next c.args.task.reader.now) c.args.task.reader.now c.args.reading.now.spot c.treat.new.spot (g.F.Files.left c.args.files.now) c.args.reading.now.chunk (g.F.Files.left c.read_piece.new.files) c.read_piece.new.chunk c.read_piece.new.piece c.args.number.now c.treat.new.number c.args.watchers.now.items c.treat.new.watchers.items c.treat.result
    filled c.in-Ok.ensures.none c.in-Ok.ensures.taken c.in-Ok.ensures.end (rw same at c.treat.ensures.moves) (rw same at (c.treat.ensures.told tells))

pub returns-else-is_empty-clause-traced : goal.returns-else-is_empty-clause-traced
returns-else-is_empty-clause-traced g c = λ h. piece_traced c.args.task.job _ _ _ _ _ _ c.treat.result h c.treat.ensures.step
