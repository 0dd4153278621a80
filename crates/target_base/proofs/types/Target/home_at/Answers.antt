use Rattle.std.proofs.Common.{◌≡◌, ◌<◌, ◌≤◌, Some, arith, length}
use Rattle.std.specs.Prelude.{position}
use Rattle.target_base.specs.Storage.{holds_reg}
use Rattle.target_base.proofs.Sound.{classes_count}
use Rattle.target_base.proofs.Lookups.{home_place_within}
use Rattle.target_base.proofs.types.Target.home_at.Goals as goal

pub overflow_cast-result : goal.overflow_cast-result
overflow_cast-result c =
    let e : position (λ d. holds_reg d.regs c.args.r) c.args.self.now.classes ≡ Some c.in-Some.place = cc in
    let w : c.in-Some.place < length c.args.self.now.classes = home_place_within c.args.self.now.classes c.args.r c.in-Some.place e in
    let n : length c.args.self.now.classes ≤ 512 = classes_count _ _ _ _ _ _ _ _ _ c.args.self.now.sound in
    omega arith
