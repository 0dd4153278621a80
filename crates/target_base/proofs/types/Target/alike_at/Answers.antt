use Rattle.std.proofs.Common.{◌<◌, ◌≤◌, arith, sym, length}
use Rattle.target_base.proofs.Sound.{classes_count}
use Rattle.target_base.proofs.Lookups.{alike_place_within}
use Rattle.target_base.proofs.types.Target.alike_at.Goals as goal

pub overflow_cast-result : goal.overflow_cast-result
overflow_cast-result c =
    let t = c.args.self.now in
    let w : c.in-Some.place < length t.classes = alike_place_within t.units t.regs t.classes c.regs_at.result.now c.in-Some.place (sym c.in-Some.ensures) in
    let n : length t.classes ≤ 512 = classes_count _ _ _ _ _ _ _ _ _ t.sound in
    omega arith
