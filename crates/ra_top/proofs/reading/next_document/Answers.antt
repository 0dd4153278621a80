use Rattle.std.proofs.Common.{◌≡◌, ◌<◌, length, rules}
use Rattle.std.proofs.lemmas.Result.{err_from_is_err_and}
use Rattle.ra_top.proofs.CheckLemmas.Reads.{file_ends, reads_on, reads_none}
use Rattle.ra_top.proofs.reading.next_document.Goals as goal

pub returns-then-is_empty-clause-read : goal.returns-then-is_empty-clause-read
returns-then-is_empty-clause-read g c =
    let none : length c.read_piece.new.piece ≡ 0 = search rules in
    file_ends _ _ c.read_piece.new.piece none c.in-Ok.ensures.end

pub returns-in_err-doc-clause-read : goal.returns-in_err-doc-clause-read
returns-in_err-doc-clause-read g c =
    let same = c.bytes-piece.ensures in
    let filled : 0 < length c.read_piece.new.piece = search rules in
    let p = err_from_is_err_and c.from_residual.result c.from_residual.ensures.1 in
    rw (p.1, p.2) (reads_none c.args.reader.now _ _ _ _ _ c.read_piece.new.piece _ filled c.in-Ok.ensures.none c.in-Ok.ensures.taken c.in-Ok.ensures.end (rw same at c.in_err-doc.ensures.err))

pub returns-clause-read : goal.returns-clause-read
returns-clause-read g c =
    let same = c.bytes-piece.ensures in
    let filled : 0 < length c.read_piece.new.piece = search rules in
    reads_on c.args.reader.now _ _ _ _ _ _ c.read_piece.new.piece _ filled c.in-Ok.ensures.none c.in-Ok.ensures.taken c.in-Ok.ensures.end (rw same at c.after-reading.ensures.value) (rw same at c.in_ok-doc.ensures.ok)
