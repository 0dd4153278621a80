use Rattle.std.proofs.Common.{◌<◌, ◌≤◌, arith, sym, length}
use Rattle.target_base.proofs.Sound.{classes_count}
use Rattle.target_base.proofs.Tests.{position_within}
use Rattle.target_base.specs.Storage.{same_numbers, class_widths}
use Rattle.place_solve.proofs.widths.class_of_widths.Goals as goal

pub overflow_cast-result : goal.overflow_cast-result
overflow_cast-result c =
    let t = c.args.target.now in
    let w : c.in-Some.place < length t.classes = position_within (λ d. same_numbers (class_widths t.units t.regs d.regs) c.args.wanted.now) t.classes c.in-Some.place (sym c.in-Some.ensures) in
    let n : length t.classes ≤ 512 = classes_count _ _ _ _ _ _ _ _ _ t.sound in
    omega arith
