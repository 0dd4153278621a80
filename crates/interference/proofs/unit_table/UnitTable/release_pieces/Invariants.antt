use Rattle.std.proofs.Common.{◌≡◌, ℕ, take, []}
use Rattle.std.specs.Prelude.{is_some}
use Rattle.interference.specs.declared.unit_table.UnitTable.{UnitTable}
use Rattle.interference.specs.Clashes.{list_in}
use Rattle.interference.specs.EditedLists.{Whole}
use Rattle.interference.specs.EditedPieces.{stays, AllBeginApart, HoldThose}
use Rattle.interference.specs.SavedLists.{PutsBack}
use Rattle.interference.proofs.unit_table.UnitTable.release_pieces.Given as goal

abbrev pub invariant-pieces : goal.invariant-pieces
invariant-pieces l = record {
  taken : (whole : ℕ → ℕ → Whole) → AllBeginApart whole → HoldThose l.slots whole (stays []) l.fn.self → HoldThose l.slots whole (stays (take l.piece-index l.pieces)) l.self;
  there : (u b : ℕ) → is_some (list_in l.self u b) ≡ is_some (list_in l.fn.self u b);
  back : (start : UnitTable) → PutsBack start l.fn.log.items l.fn.self → PutsBack start l.log.items l.self;
}
