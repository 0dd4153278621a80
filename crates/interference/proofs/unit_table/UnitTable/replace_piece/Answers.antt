use Rattle.std.proofs.Common.{◌<◌, length, refl, arith}
use Rattle.std.proofs.lemmas.Result.{on_ok_weaker}
use Rattle.std.specs.Vec.{with_item}
use Rattle.interference.specs.declared.unit_table.UnitExtents.{UnitExtents}
use Rattle.interference.specs.declared.unit_table.UnitTable.{UnitTable}
use Rattle.interference.specs.ChangedLists.{PutsPiece}
use Rattle.interference.specs.SavedLists.{Logs}
use Rattle.interference.proofs.PutBack.{logged-back}
use Rattle.interference.proofs.Thinned.{table-changed, table-there}
use Rattle.interference.proofs.unit_table.UnitTable.replace_piece.Goals as goal

pub returns-clause-ok : goal.returns-clause-ok
returns-clause-ok c =
    let old = c.args.self.now in
    let at = c.args.at.now in
    let row : UnitExtents = record { blocks = c.replace_in.new.lists } in
    let new : UnitTable = record { units = with_item old.units at.unit row } in
    let lt : at.unit < length old.units.items = omega arith in
    on_ok_weaker c.replace_in.result (table-changed (PutsPiece c.args.slots.now at.range c.args.extent) old new at.unit at.piece.block c.index_mut.result.now row lt c.index_mut.ensures.value refl) c.replace_in.ensures.ok

pub returns-clause-back : goal.returns-clause-back
returns-clause-back c =
    let old = c.args.self.now in
    let at = c.args.at.now in
    let row : UnitExtents = record { blocks = c.replace_in.new.lists } in
    let new : UnitTable = record { units = with_item old.units at.unit row } in
    let lt : at.unit < length old.units.items = omega arith in
    logged-back at c.args.log.now.items c.replace_in.new.log.items old new
    (table-changed (Logs at c.args.log.now.items c.replace_in.new.log.items) old new at.unit at.piece.block c.index_mut.result.now row lt c.index_mut.ensures.value refl c.replace_in.ensures.logged.0)
    (table-there old at.unit at.piece.block c.index_mut.result.now lt c.index_mut.ensures.value c.replace_in.ensures.logged.1)
