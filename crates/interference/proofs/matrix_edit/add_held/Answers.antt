use Rattle.std.proofs.Common.{subst}
use Rattle.mir_meaning.specs.Paths.{Among}
use Rattle.interference.specs.HeldLanes.{assigned_piece}
use Rattle.interference.proofs.HeldLanes.{adds-known, adds-new}
use Rattle.interference.proofs.matrix_edit.add_held.Goals as goal

pub returns-then-is_last : goal.returns-then-is_last
returns-then-is_last c =
    adds-known c.args.holding.holder c.args.piece c.args.pieces.now.items c.in-Some.range c.in-Some.unit c.in-Some.is (subst (Among (assigned_piece c.args.piece c.in-Some.range c.in-Some.unit)) c.as_slice.ensures.value (c.is_last.ensures c.if-is_last.true))

pub returns : goal.returns
returns c = adds-new c.args.holding.holder c.args.piece c.args.pieces.now.items c.push.new.self.items c.in-Some.range c.in-Some.unit c.in-Some.is c.in_ok-push.ensures.items
