use Rattle.std.proofs.Common.{◌<◌, length, refl, arith}
use Rattle.std.specs.Vec.{with_item}
use Rattle.interference.specs.declared.unit_table.UnitExtents.{UnitExtents}
use Rattle.interference.specs.declared.unit_table.UnitTable.{UnitTable}
use Rattle.interference.specs.SavedLists.{restored, IsRestored}
use Rattle.interference.proofs.PutBack.{parts-changed}
use Rattle.interference.proofs.Thinned.{table-changed}
use Rattle.interference.proofs.unit_table.UnitTable.restore.Goals as goal

pub returns : goal.returns
returns c =
    let old = c.args.self.now in
    let saved = c.args.saved in
    let row : UnitExtents = record { blocks = c.restore_in.new.lists } in
    let new : UnitTable = record { units = with_item old.units saved.unit row } in
    let lt : saved.unit < length old.units.items = omega arith in
    parts-changed (IsRestored saved.parts) saved.unit saved.block old new
    (table-changed (IsRestored saved.parts) old new saved.unit saved.block c.index_mut.result.now row lt c.index_mut.ensures.value refl c.restore_in.ensures)
    (restored saved.parts) (λ l k e. e)
