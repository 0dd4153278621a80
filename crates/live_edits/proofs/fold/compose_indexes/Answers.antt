use Rattle.std.proofs.Common.{◌≡◌, ◌≤◌, ◌<◌, length, sym, ap, arith}
use Rattle.target_base.proofs.Sound.{indexes_count}
use Rattle.target_base.proofs.Tests.{position_within}
use Rattle.live_edits.proofs.fold.compose_indexes.Goals as goal

pub overflow_cast-result : goal.overflow_cast-result
overflow_cast-result c =
    let t = c.args.target.now in
    let few : length t.indexes ≤ 512 = indexes_count t.name t.version t.units t.regs t.reserved t.indexes t.classes t.masks t.opcodes t.sound in
    let same : length c.as_slice.result.now ≡ length t.indexes = ap length c.as_slice.ensures in
    let below : c.in-Some.place < length c.as_slice.result.now = position_within _ _ c.in-Some.place (sym c.in-Some.ensures) in
    omega (arith, few, same, below)
