use Rattle.std.proofs.Common.{◌<◌, length, arith}
use Rattle.interference.specs.SavedLists.{IsRestored}
use Rattle.interference.proofs.Thinned.{row-changed}
use Rattle.interference.proofs.unit_table.restore_in.Goals as goal

pub returns : goal.returns
returns c =
    let ls = c.args.lists.now.items in
    let lt : c.args.saved.block < length ls = omega arith in
    row-changed (IsRestored c.args.saved.parts) ls c.args.saved.block c.index_mut.result.now c.restore.new.self lt c.index_mut.ensures.value c.restore.ensures
