use Rattle.std.proofs.Common.{arith}
use Rattle.live_edits.proofs.CellChanged.{put-piece, piece-gone}
use Rattle.live_edits.proofs.cell_change.begin_piece.Goals as goal

pub returns-clause-changed : goal.returns-clause-changed
returns-clause-changed c = put-piece c.args.cell.now c.args.at c.args.count c.args.piece (omega arith) (omega arith) c.insert.new.self.items c.in_ok-insert.ensures.items

pub returns-clause-back : goal.returns-clause-back
returns-clause-back c = piece-gone c.args.cell.now c.args.at c.args.count c.args.piece (omega arith) (omega arith) c.insert.new.self.items c.in_ok-insert.ensures.items
