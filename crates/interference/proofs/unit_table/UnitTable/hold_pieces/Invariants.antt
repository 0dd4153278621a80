use Rattle.std.proofs.Common.{◌≡◌, ℕ, take, []}
use Rattle.std.specs.Prelude.{is_some}
use Rattle.live_lanes.specs.Looks.{InOrder}
use Rattle.interference.specs.declared.matrix.Matrix.{Matrix}
use Rattle.interference.specs.declared.unit_table.UnitTable.{UnitTable}
use Rattle.interference.specs.Clashes.{list_in}
use Rattle.interference.specs.EditedPieces.{stays_or_comes, whole_by, AreHeld, HoldThose, MayHoldAll}
use Rattle.interference.specs.SavedLists.{PutsBack}
use Rattle.interference.proofs.unit_table.UnitTable.hold_pieces.Given as goal

abbrev pub invariant-pieces : goal.invariant-pieces
invariant-pieces l = record {
  put : (m : Matrix) → m.live ≡ l.live → MayHoldAll m l.fn.self → AreHeld m l.pieces → HoldThose l.live.table.order.slots (whole_by m l.live.table) (stays_or_comes l.pieces []) l.fn.self
      → HoldThose l.live.table.order.slots (whole_by m l.live.table) (stays_or_comes l.pieces (take l.piece-index l.pieces)) l.self;
  there : InOrder l.live.table → (u b : ℕ) → is_some (list_in l.self u b) ≡ is_some (list_in l.fn.self u b);
  back : (start : UnitTable) → PutsBack start l.fn.log.items l.fn.self → PutsBack start l.log.items l.self;
}
