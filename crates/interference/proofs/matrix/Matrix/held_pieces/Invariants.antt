use Rattle.std.proofs.Common.{take}
use Rattle.instr_effects.specs.Numbered.{IsTable}
use Rattle.interference.specs.HeldLanes.{AreHeldPieces, IsHolder}
use Rattle.interference.proofs.matrix.Matrix.held_pieces.Given as goal

abbrev pub invariant-pieces : goal.invariant-pieces
invariant-pieces l = record {
  holder : IsTable l.self.live.table.lanes → IsHolder l.self l.last.lane l.last.holder;
  pieces : IsTable l.self.live.table.lanes → AreHeldPieces l.self (take l.piece-index l.piece-items) l.pieces.items;
}
