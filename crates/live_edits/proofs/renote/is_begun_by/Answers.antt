use Rattle.std.proofs.Common.{arith}
use Rattle.live_edits.proofs.RenotePieces.{begun-past, begun-at}
use Rattle.live_edits.proofs.renote.is_begun_by.Goals as goal

pub returns-then-at-len : goal.returns-then-at-len
returns-then-at-len c = begun-past c.args.id c.args.cell.now.segments.items c.args.at (omega (arith, c.args.cell.now.segments.ok.0, c.len.ensures, c.if-at-len.true))

pub returns : goal.returns
returns c = begun-at c.args.id c.args.cell.now.segments.items c.args.at c.index.result.now (omega (arith, c.args.cell.now.segments.ok.0, c.len.ensures, c.if-at-len.false)) c.index.ensures
