use Rattle.live_edits.proofs.ToldPieces.{adds-last}
use Rattle.live_edits.proofs.changed.add_piece.Goals as goal

pub returns : goal.returns
returns c = adds-last c.args.pieces.now.items c.push.new.self.items c.in-Some.piece c.args.piece c.in-Some.is c.in_ok-push.ensures.items
