use Rattle.std.proofs.Common.{◌<◌, length, arith}
use Rattle.std.proofs.lemmas.Result.{on_ok_weaker}
use Rattle.interference.specs.ChangedLists.{PutsPiece}
use Rattle.interference.specs.SavedLists.{Logs}
use Rattle.interference.proofs.Thinned.{row-changed, row-there}
use Rattle.interference.proofs.unit_table.replace_in.Goals as goal

pub returns-clause-ok : goal.returns-clause-ok
returns-clause-ok c =
    let ls = c.args.lists.now.items in
    let b = c.args.at.now.piece.block in
    let lt : b < length ls = omega arith in
    on_ok_weaker c.replace_piece.result (row-changed (PutsPiece c.args.slots.now c.args.at.now.range c.args.extent) ls b c.index_mut.result.now c.replace_piece.new.self lt c.index_mut.ensures.value) c.replace_piece.ensures.ok

pub returns-clause-logged : goal.returns-clause-logged
returns-clause-logged c =
    let ls = c.args.lists.now.items in
    let b = c.args.at.now.piece.block in
    let lt : b < length ls = omega arith in
    (row-changed (Logs c.args.at.now c.args.log.now.items c.replace_piece.new.log.items) ls b c.index_mut.result.now c.replace_piece.new.self lt c.index_mut.ensures.value c.replace_piece.ensures.logged, row-there ls b c.index_mut.result.now lt c.index_mut.ensures.value)
