use Rattle.std.proofs.Common.{◌<◌, ◌≤◌, arith, sym, length}
use Rattle.target_base.specs.Registers.{lanes_of, regs_of}
use Rattle.target_base.proofs.Sound.{classes_count}
use Rattle.target_base.proofs.Lookups.{part_place_within}
use Rattle.target_base.proofs.types.Target.part_at.Goals as goal

pub overflow_cast-result : goal.overflow_cast-result
overflow_cast-result c =
    let t = c.args.self.now in
    let w : c.in-Some-part_place.place < length t.classes = part_place_within t.regs t.classes (lanes_of t c.in-Some.i) (regs_of t c.args.c) c.in-Some-part_place.place (sym c.in-Some-part_place.ensures) in
    let n : length t.classes ≤ 512 = classes_count _ _ _ _ _ _ _ _ _ t.sound in
    omega arith
